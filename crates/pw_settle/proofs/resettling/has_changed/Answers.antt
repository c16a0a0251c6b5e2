use Rattle.std.proofs.Common.{◌≡◌, ◌<◌, ◌≤◌, Bool, true, false, length, inl, inr, sym, ap, ◌∙◌, subst}
use Rattle.std.specs.Prelude.{◌↔◌, IsTrue, not}
use Rattle.std.proofs.lemmas.Bool.{cases_Bool, ltb-false, ltb-true}
use Rattle.std.proofs.lemmas.List.{get_or_default, get_or_past}
use Rattle.pw_info.specs.declared.kind.Kind.TheVariants as kinds
use Rattle.pw_info.specs.declared.info.Info.{Info}
use Rattle.pw_info.specs.Information.{kind_of, nothing, Implies}
use Rattle.pw_settle.specs.Settled.{info_at}
use Rattle.pw_settle.specs.inside.Queueing.{found_of}
use Rattle.pw_settle.proofs.resettling.has_changed.Goals as goal

-- where a test says whether one information implies another, its negation says whether it does not
not_implied : (test : Bool) (one another its_one its_other : Info) → one ≡ its_one → another ≡ its_other → IsTrue test ↔ Implies its_one its_other →
    IsTrue (not test) ↔ (Implies one another → ⊥)
not_implied test one another its_one its_other same here tells = (
  λ is has.
      let flag = tells.1 (subst (λ (x : Info). Implies x its_other) same (subst (Implies one) here has)) in
      let wrong : false ≡ true = sym (ap not flag) ∙ is in
      absurd (cc),
  λ changed. elim (cases_Bool test) [
    | inl holds ↦ absurd (changed (subst (Implies one) (sym here) (subst (λ (x : Info). Implies x its_other) (sym same) (tells.0 holds))))
    | inr fails ↦ ap not fails
  ],
)

pub returns-in-Some : goal.returns-in-Some
returns-in-Some g =
    let there : g.args.cell < length g.args.before.now = ltb-true g.args.cell (length g.args.before.now) (sym g.in-Some.ensures.lookup.0) in
    not_implied g.implies.result (found_of g.args.before.now g.args.now.now g.args.cell) (info_at g.args.now.now g.args.cell)
    g.in-Some.found.now g.index-now-cell.result
    (get_or_default g.args.before.now g.args.cell (nothing (kind_of (info_at g.args.now.now g.args.cell))) g.in-Some.found.now there
    ∙ sym g.in-Some.ensures.lookup.1)
    (get_or_default g.args.now.now g.args.cell (nothing kinds.Interval) g.index-now-cell.result g.requires.there ∙ sym g.index-now-cell.is)
    g.implies.ensures

pub returns-in-None : goal.returns-in-None
returns-in-None g =
    let past : length g.args.before.now ≤ g.args.cell = ltb-false g.args.cell (length g.args.before.now) (sym g.in-None.ensures.lookup.0) in
    let kind =
    ap kind_of (get_or_default g.args.now.now g.args.cell (nothing kinds.Interval) g.index-now-cell-in-None.result g.requires.there
    ∙ sym g.index-now-cell-in-None.is) ∙ sym g.kind.ensures in
    not_implied g.implies-in-None.result (found_of g.args.before.now g.args.now.now g.args.cell) (info_at g.args.now.now g.args.cell)
    g.nothing.result g.index-now-cell-in-None-2.result
    (get_or_past g.args.before.now g.args.cell (nothing (kind_of (info_at g.args.now.now g.args.cell))) past ∙ ap nothing kind ∙ sym g.nothing.ensures.exact)
    (get_or_default g.args.now.now g.args.cell (nothing kinds.Interval) g.index-now-cell-in-None-2.result g.requires.there
    ∙ sym g.index-now-cell-in-None-2.is)
    g.implies-in-None.ensures
