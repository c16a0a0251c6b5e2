use Rattle.std.proofs.Common.{◌≡◌, ◌<◌, List, length, set, sym, subst, ◌∙◌, arith}
use Rattle.std.specs.Prelude.{◌↔◌, IsTrue}
use Rattle.std.proofs.lemmas.List.{get_or_default}
use Rattle.std.specs.FinSet.{union}
use Rattle.pw_kinds.proofs.Order.{not_both}
use Rattle.pw_info.specs.declared.kind.Kind.TheVariants as kinds
use Rattle.pw_info.specs.declared.info.Info.{Info}
use Rattle.pw_info.specs.Information.{Implies, meet, nothing}
use Rattle.pw_premises.specs.Premises.{Premises}
use Rattle.pw_cells.specs.Cells.{fact_on}
use Rattle.pw_settle.specs.inside.Known.{TakesIn}
use Rattle.pw_settle.specs.Settled.{info_at, support_at}
use Rattle.pw_settle.proofs.TakenIn.{takes_both, takes_second}
use Rattle.pw_settle.proofs.known.take_in.Given as given
use Rattle.pw_settle.proofs.known.take_in.Goals as goal
use Rattle.pw_settle.proofs.known.take_in.Goals.{After-implies}

-- what is known is read, and whether the news say all of it
says_all : (g : given.Over) (c : After-implies g) → IsTrue c.implies.result ↔ Implies c.args.info.now (info_at c.args.infos.now c.args.cell)
says_all g c =
    subst (λ (known : Info). IsTrue c.implies.result ↔ Implies c.args.info.now known)
    (get_or_default c.args.infos.now c.args.cell c.index-infos-place.result (nothing kinds.Interval) c.requires.there) c.implies.ensures

there : (g : given.Over) (c : After-implies g) → c.args.cell < length c.args.supports.now
there g c = omega (arith, c.requires.there, c.requires.as_many)

pub returns-in_ok-replace : goal.returns-in_ok-replace
returns-in_ok-replace g c = record {
  taken =
      rw c.copied.ensures (subst (TakesIn c.args.cell (fact_on c.args.info.now c.args.support) c.args.infos.now (set c.args.infos.now c.args.cell c.args.info.now) c.args.supports.now)
      (sym {A = List Premises} c.in_ok-replace.ensures.ok)
      (takes_second c.args.infos.now c.args.supports.now c.args.cell c.args.info.now c.args.support (there g (goal.at.returns-in_ok-replace g c).After-implies) c.requires.kind c.requires.news
      ((says_all g (goal.at.returns-in_ok-replace g c).After-implies).0 c.if-implies.true)));
  refused = tt;
}

pub returns-in_ok-replace-2 : goal.returns-in_ok-replace-2
returns-in_ok-replace-2 g c = record {
  taken =
      let read = get_or_default c.args.infos.now c.args.cell c.index-infos-place-else-implies.result (nothing kinds.Interval) c.requires.there in
      let merged : c.meet.result ≡ meet (info_at c.args.infos.now c.args.cell) c.args.info.now =
      c.meet.ensures.exact ∙ (λ i. meet (read i) c.args.info.now) in
      let joined : c.join.result ≡ union (support_at c.args.supports.now c.args.cell) c.args.support =
      c.join.ensures.union ∙ (λ i. union (c.get-known.ensures i) c.args.support) in
      subst (λ (i : Info). TakesIn c.args.cell (fact_on c.args.info.now c.args.support) c.args.infos.now (set c.args.infos.now c.args.cell i) c.args.supports.now
      c.replace-else-implies.new.self) (sym {A = Info} merged)
      (subst (TakesIn c.args.cell (fact_on c.args.info.now c.args.support) c.args.infos.now
      (set c.args.infos.now c.args.cell (meet (info_at c.args.infos.now c.args.cell) c.args.info.now)) c.args.supports.now)
      (sym {A = List Premises} (c.in_ok-replace-2.ensures.ok ∙ (λ i. set c.args.supports.now c.args.cell (joined i))))
      (takes_both c.args.infos.now c.args.supports.now c.args.cell c.args.info.now c.args.support (there g (goal.at.returns-in_ok-replace-2 g c).After-implies) c.requires.kind c.requires.news
      (λ more. not_both _ ((says_all g (goal.at.returns-in_ok-replace-2 g c).After-implies).1 more) c.if-implies.false)));
  refused = tt;
}
