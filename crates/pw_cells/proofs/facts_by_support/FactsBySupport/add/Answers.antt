use Rattle.std.proofs.Common.{map, sym, ◌∙◌, ap}
use Rattle.pw_info.specs.Information.{kind_of, meet}
use Rattle.indexmap.specs.IndexMap.{insert_entry}
use Rattle.pw_cells.specs.inside.OneCell.{place_of_support}
use Rattle.pw_cells.proofs.FactsBySupport.{told_kind, told_again, told_last}
use Rattle.pw_cells.proofs.facts_by_support.FactsBySupport.add.Goals as goal

pub meet-requires : goal.meet-requires
meet-requires g c = told_kind _ _ _ _ c.support-support.result c.args.fact.now c.in-Some.place _ c.self.view_is c.requires c.index.ensures
    ∙ ap kind_of (sym c.info.ensures)

pub returns-in-Some-clause-kinds : goal.returns-in-Some-clause-kinds
returns-in-Some-clause-kinds g c =
    (told_again _ _ _ c.support-support.result c.args.fact.now c.in-Some.place _ _ c.self.view_is c.requires (ap (λ u. place_of_support u (map (λ x. x.support) c.args.self.now)) (sym c.support-support.ensures) ∙ sym c.place_of.ensures ∙ c.in-Some.is) c.index.ensures (c.meet.ensures.exact ∙ ap (meet c.index.result.now) c.info.ensures)).kinds

pub returns-in-Some-clause-shown : goal.returns-in-Some-clause-shown
returns-in-Some-clause-shown g c =
    (told_again _ _ _ c.support-support.result c.args.fact.now c.in-Some.place _ _ c.self.view_is c.requires (ap (λ u. place_of_support u (map (λ x. x.support) c.args.self.now)) (sym c.support-support.ensures) ∙ sym c.place_of.ensures ∙ c.in-Some.is) c.index.ensures (c.meet.ensures.exact ∙ ap (meet c.index.result.now) c.info.ensures)).shown

pub returns-in_ok-insert-in-None-clause-kinds : goal.returns-in_ok-insert-in-None-clause-kinds
returns-in_ok-insert-in-None-clause-kinds g c =
    (told_last _ _ g.met.S.Support.same _ _ _ c.support-support.result c.args.fact.now c.self.view_is c.requires c.support-support.ensures (sym c.place_of.ensures ∙ c.in-None.is) (c.in_ok-insert-in-None.ensures.entries
    ∙ ap (insert_entry g.S.PartialEq.eq c.self.inside.infos.entries c.support-support.result) c.info-in-None.ensures)).kinds

pub returns-in_ok-insert-in-None-clause-shown : goal.returns-in_ok-insert-in-None-clause-shown
returns-in_ok-insert-in-None-clause-shown g c =
    (told_last _ _ g.met.S.Support.same _ _ _ c.support-support.result c.args.fact.now c.self.view_is c.requires c.support-support.ensures (sym c.place_of.ensures ∙ c.in-None.is) (c.in_ok-insert-in-None.ensures.entries
    ∙ ap (insert_entry g.S.PartialEq.eq c.self.inside.infos.entries c.support-support.result) c.info-in-None.ensures)).shown
