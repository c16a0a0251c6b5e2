use Rattle.std.proofs.Common.{◌≡◌, List, get_or, set, map, length-set, sym, ◌∙◌, ap, subst, arith}
use Rattle.std.specs.Prelude.{All, Option, IfSome}
use Rattle.pw_info.specs.Information.{kind_of}
use Rattle.pw_cells.specs.declared.recalled.Recalled.{Recalled}
use Rattle.pw_cells.specs.inside.OneCell.{AreRight, after_tell}
use Rattle.pw_cells.proofs.RightAnswers.{kind_of_answer, answers_after, slots_still, slots_then, slots_told_the_same}
use Rattle.pw_cells.specs.Cells.{Cell, Store, told_of, kept_of}
use Rattle.pw_cells.specs.Changes.{GainsFact, Assimilates}
use Rattle.pw_cells.proofs.Stores.{there, cell_changed, cell_read, of_kind_read, others_same, same_kinds, same_store, OnErr_always}
use Rattle.pw_cells.proofs.cell_store.CellStore.take_told.Goals as goal

pub returns-clause-told : goal.returns-clause-told
returns-clause-told g c =
    cell_changed (λ old new. GainsFact c.args.fact.now (told_of old) (told_of new)) _ _ _ _ _ _ c.index_mut.ensures.value c.self.view_is c.requires.there c.in_ok-tell.ensures.told.told

pub returns-clause-kept : goal.returns-clause-kept
returns-clause-kept g c =
    cell_changed (λ old new. GainsFact c.args.fact.now (kept_of old) (kept_of new)) _ _ _ _ _ _ c.index_mut.ensures.value c.self.view_is c.requires.there c.in_ok-tell.ensures.told.kept

pub returns-clause-assimilates : goal.returns-clause-assimilates
returns-clause-assimilates g c =
    cell_changed (λ old new. Assimilates c.args.fact.now old.kept new.kept) _ _ _ _ _ _ c.index_mut.ensures.value c.self.view_is c.requires.there c.in_ok-tell.ensures.told.assimilates

pub returns-clause-kinds : goal.returns-clause-kinds
returns-clause-kinds g c = same_kinds _ _ _ _ _ c.index_mut.ensures.value c.self.view_is c.in_ok-tell.ensures.told.kind

pub invariant_of-self : goal.invariant_of-self
invariant_of-self g c =
    let within = there _ _ _ c.self.view_is c.requires.there in (
      omega (arith, c.self.invariant.0, length-set c.self.inside.cells.items c.args.cell c.tell.new.self),
      slots_told_the_same _ _ _ _ _ c.index_mut.ensures.value within
          (λ w. ap (λ (cell : Cell). told_of cell w) c.in_err-tell.ensures.err) c.self.invariant.1,
    )

pub returns-in_err-tell-clause-err : goal.returns-in_err-tell-clause-err
returns-in_err-tell-clause-err g c =
    OnErr_always c.from_residual.result
    (same_store _ _ _ _ _ c.index_mut.ensures.value c.self.view_is c.in_err-tell.ensures.err)

pub take_in-requires : goal.take_in-requires
take_in-requires g c =
    let within = there _ _ _ c.self.view_is c.requires.there in
    let kind : c.index_mut.result.now.kind ≡ kind_of c.args.fact.now.info =
    ap (λ (cell : Cell). cell.kind) (cell_read _ _ _ _ c.index_mut.ensures.value c.self.view_is c.requires.there) ∙ sym c.requires.kind in
    slots_still (AreRight c.self.inside.cells.items) (All (λ a. a.cell ≡ c.args.cell → kind_of a.info ≡ kind_of c.args.fact.now.info)) c.self.inside.recalled.slots
    (λ answers right k d below is.
    kind_of_answer c.self.inside.cells.items c.args.cell c.index_mut.result.now (get_or answers k d) c.index_mut.ensures.value within (right k d below) is ∙ kind) c.self.invariant.1

pub invariant_of-self-2 : goal.invariant_of-self-2
invariant_of-self-2 g c =
    let within = there _ _ _ c.self.view_is c.requires.there in
    let kind : kind_of c.args.fact.now.info ≡ c.index_mut.result.now.kind =
    c.requires.kind ∙ sym (ap (λ (cell : Cell). cell.kind) (cell_read _ _ _ _ c.index_mut.ensures.value c.self.view_is c.requires.there)) in (
      omega (arith, c.self.invariant.0, length-set c.self.inside.cells.items c.args.cell c.tell.new.self),
      subst (λ (slots : Option (List Recalled)). IfSome slots (AreRight (set c.self.inside.cells.items c.args.cell c.tell.new.self))) (sym {A = Option (List Recalled)} c.take_in.ensures)
          (slots_then (AreRight c.self.inside.cells.items) (AreRight (set c.self.inside.cells.items c.args.cell c.tell.new.self)) c.self.inside.recalled.slots
          (map (after_tell c.args.cell c.args.fact.now))
          (λ answers. answers_after c.self.inside.cells.items c.args.cell c.index_mut.result.now c.tell.new.self c.args.fact.now answers c.index_mut.ensures.value within kind
          c.in_ok-tell.ensures.told.told) c.self.invariant.1),
    )

pub index_mut-requires : goal.index_mut-requires
index_mut-requires g c = omega (arith, there _ _ _ c.self.view_is c.requires.there)

pub tell-requires : goal.tell-requires
tell-requires g c = of_kind_read _ _ _ _ _ c.index_mut.ensures.value c.self.view_is c.requires.there c.requires.kind

pub returns-in_err-tell-clause-others : goal.returns-in_err-tell-clause-others
returns-in_err-tell-clause-others g c = others_same _ _ _ _ c.self.view_is

pub returns-in_err-tell-clause-kinds : goal.returns-in_err-tell-clause-kinds
returns-in_err-tell-clause-kinds g c = same_kinds _ _ _ _ _ c.index_mut.ensures.value c.self.view_is (ap (λ (cell : Cell). cell.kind) c.in_err-tell.ensures.err)

pub returns-in_err-tell-clause-room : goal.returns-in_err-tell-clause-room
returns-in_err-tell-clause-room g c = ap (λ (s : Store). s.room) c.self.view_is

pub returns-in_err-tell-clause-arrivals : goal.returns-in_err-tell-clause-arrivals
returns-in_err-tell-clause-arrivals g c = ap (λ (s : Store). s.arrivals) c.self.view_is

pub returns-clause-others : goal.returns-clause-others
returns-clause-others g c = others_same _ _ _ _ c.self.view_is

pub returns-clause-room : goal.returns-clause-room
returns-clause-room g c = ap (λ (s : Store). s.room) c.self.view_is

pub returns-clause-arrivals : goal.returns-clause-arrivals
returns-clause-arrivals g c = ap (λ (s : Store). s.arrivals) c.self.view_is
