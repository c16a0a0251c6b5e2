use Rattle.std.proofs.Common.{◌≡◌, false, length-set, subst, ap, arith}
use Rattle.std.specs.Prelude.{◌↔◌, IfOk, OnOk}
use Rattle.pw_cells.specs.Cells.{Cell, Store, shown_by, told_of, kept_of, IsSubsumedBy}
use Rattle.pw_cells.specs.Changes.{GainsFact, Assimilates}
use Rattle.pw_cells.proofs.CellChanges.{on_ok, still_kind, still_told}
use Rattle.pw_cells.proofs.RightAnswers.{slots_told_the_same}
use Rattle.pw_cells.proofs.Stores.{there, cell_read, of_kind_read, others_same, cell_changed, same_kinds, same_store, OnErr_then, IfOk_then}
use Rattle.pw_cells.proofs.cell_store.CellStore.take_in.Goals as goal

pub returns-clause-kept : goal.returns-clause-kept
returns-clause-kept g c =
    cell_changed (λ old new. OnOk c.keep.result (GainsFact c.args.fact.now (kept_of old) (kept_of new))) _ _ _ _ _ _ c.index_mut.ensures.value c.self.view_is c.requires.there (on_ok c.keep.result (λ keeps. keeps.kept) c.keep.ensures.kept)

pub returns-clause-assimilates : goal.returns-clause-assimilates
returns-clause-assimilates g c =
    cell_changed (λ old new. OnOk c.keep.result (Assimilates c.args.fact.now old.kept new.kept)) _ _ _ _ _ _ c.index_mut.ensures.value c.self.view_is c.requires.there (on_ok c.keep.result (λ keeps. keeps.assimilates) c.keep.ensures.kept)

pub returns-clause-kinds : goal.returns-clause-kinds
returns-clause-kinds g c = same_kinds _ _ _ _ _ c.index_mut.ensures.value c.self.view_is (still_kind c.keep.result c.args.fact.now c.index_mut.result.now c.keep.new.self c.keep.ensures.kept c.keep.ensures.err)

pub returns-clause-answer : goal.returns-clause-answer
returns-clause-answer g c =
    subst (λ (cell : Cell). IfOk c.keep.result (λ news. (news ≡ false) ↔ IsSubsumedBy cell.kept c.args.fact.now))
    (cell_read _ _ _ _ c.index_mut.ensures.value c.self.view_is c.requires.there)
    c.keep.ensures.answer

pub returns-clause-err : goal.returns-clause-err
returns-clause-err g c =
    OnErr_then c.keep.result (same_store _ _ _ _ _ c.index_mut.ensures.value c.self.view_is) c.keep.ensures.err

pub returns-clause-known : goal.returns-clause-known
returns-clause-known g c =
    IfOk_then c.keep.result
    (λ news same old. same_store _ _ _ _ _ c.index_mut.ensures.value c.self.view_is (same old)) c.keep.ensures.known

pub returns-clause-told : goal.returns-clause-told
returns-clause-told g c = λ w.
    cell_changed (λ old new. told_of new w ≡ told_of old w) _ _ _ _ _ _ c.index_mut.ensures.value c.self.view_is c.requires.there (λ i. shown_by (still_kind c.keep.result c.args.fact.now c.index_mut.result.now c.keep.new.self c.keep.ensures.kept c.keep.ensures.err i) w (still_told c.keep.result c.args.fact.now c.index_mut.result.now c.keep.new.self c.keep.ensures.kept c.keep.ensures.err i))

pub invariant_of-self : goal.invariant_of-self
invariant_of-self g c =
    let within = there _ _ _ c.self.view_is c.requires.there in (
      omega (arith, c.self.invariant.0, length-set c.self.inside.cells.items c.args.cell c.keep.new.self),
      slots_told_the_same _ _ _ _ _ c.index_mut.ensures.value within
          (λ w i. shown_by (still_kind c.keep.result c.args.fact.now c.index_mut.result.now c.keep.new.self c.keep.ensures.kept c.keep.ensures.err i) w (still_told c.keep.result c.args.fact.now c.index_mut.result.now c.keep.new.self c.keep.ensures.kept c.keep.ensures.err i)) c.self.invariant.1,
    )

pub index_mut-requires : goal.index_mut-requires
index_mut-requires g c = omega (arith, there _ _ _ c.self.view_is c.requires.there)

pub keep-requires : goal.keep-requires
keep-requires g c = of_kind_read _ _ _ _ _ c.index_mut.ensures.value c.self.view_is c.requires.there c.requires.kind

pub returns-clause-others : goal.returns-clause-others
returns-clause-others g c = others_same _ _ _ _ c.self.view_is

pub returns-clause-room : goal.returns-clause-room
returns-clause-room g c = ap (λ (s : Store). s.room) c.self.view_is

pub returns-clause-arrivals : goal.returns-clause-arrivals
returns-clause-arrivals g c = ap (λ (s : Store). s.arrivals) c.self.view_is
