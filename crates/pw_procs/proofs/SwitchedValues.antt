-- What a switch gives, by cases of its truth.
use Rattle.std.proofs.Common.{◌≡◌, pos, true, false, refl, subst, inl, inr}
use Rattle.std.proofs.lemmas.Bool.{cases_Bool}
use Rattle.pw_kinds.specs.declared.members.Members.{Members}
use Rattle.pw_kinds.specs.Members as members
use Rattle.pw_info.specs.declared.info.Info.{Info}
use Rattle.pw_info.specs.declared.info.Info.TheVariants as info
use Rattle.pw_info.specs.Information.{allows, kind_of, nothing, contradiction}
use Rattle.pw_procs.specs.Values.{is_possible}
use Rattle.pw_procs.specs.Meaning.{switched}
use Rattle.pw_procs.proofs.Possible.{true_some, contradiction_none, impossible_contradiction}

-- truths that leave none possible give the contradiction
none_switched : (p x : Info) → is_possible p ≡ false → contradiction (kind_of x) ≡ switched p x
none_switched p x none = rw none refl

-- truths that may be false give nothing
false_switched : (p x : Info) → is_possible p ≡ true → allows p (pos 0) ≡ true → nothing (kind_of x) ≡ switched p x
false_switched p x possible here = rw (possible, here) refl

-- what is exactly true passes the other input on
true_switched : (p x : Info) → is_possible p ≡ true → allows p (pos 0) ≡ false → x ≡ switched p x
true_switched p x possible nowhere = rw (possible, nowhere) refl

-- the same for the members that truths are: none is possible
pub empty_switches : (part : Members) (p x : Info) → info.Members 0 part ≡ p → members.IsEmpty part → contradiction (kind_of x) ≡ switched p x
empty_switches part p x e none =
    subst (λ (q : Info). contradiction (kind_of x) ≡ switched q x) e
    (none_switched (info.Members 0 part) x (contradiction_none (info.Members 0 part) none (λ v. true)))

-- `false` is among them
pub false_switches : (part : Members) (p x : Info) → info.Members 0 part ≡ p → members.allows part (pos 0) ≡ true → nothing (kind_of x) ≡ switched p x
false_switches part p x e here =
    subst (λ (q : Info). nothing (kind_of x) ≡ switched q x) e
    (false_switched (info.Members 0 part) x (true_some (info.Members 0 part) (λ v. true) (pos 0) here refl) here)

-- some are possible, and `false` is not
pub true_switches : (part : Members) (p x : Info) → info.Members 0 part ≡ p → (members.IsEmpty part → ⊥) → members.allows part (pos 0) ≡ false → x ≡ switched p x
true_switches part p x e some nowhere =
    subst (λ (q : Info). x ≡ switched q x) e (elim (cases_Bool (is_possible (info.Members 0 part))) [
      | inl possible ↦ true_switched (info.Members 0 part) x possible nowhere
      | inr none ↦ absurd (some (impossible_contradiction (info.Members 0 part) none))
    ])
