-- What facts show: what they say where what they rest on is believed, otherwise nothing.
use Rattle.std.proofs.Common.{◌≡◌, true, false, inl, inr, sym, ◌∙◌, ap, subst}
use Rattle.std.specs.Prelude.{if◌then◌else◌}
use Rattle.std.specs.FinSet.{is_subset}
use Rattle.std.proofs.lemmas.Bool.{cases_Bool}
use Rattle.pw_info.specs.declared.info.Info.{Info}
use Rattle.pw_info.specs.Information.{kind_of, allows, nothing, Implies}
use Rattle.pw_info.proofs.Informations.{kind-closest, implies_nothing, Implies-antisym}
use Rattle.pw_premises.specs.PremiseSubsets.{is_subset_refl, is_subset_trans, is_subset_antisym}
use Rattle.pw_premises.specs.Premises.{Premises}
use Rattle.pw_facts.specs.declared.fact.Fact.{Fact}
use Rattle.pw_facts.specs.Facts.{shows, Subsumes}

-- if its support is believed a fact shows what it says
pub shows-supported : (w : Premises) (f : Fact) → is_subset f.support w ≡ true → shows w f ≡ f.info
shows-supported w f e = ap (λ b. if b then f.info else nothing (kind_of f.info)) e

-- elsewhere it shows nothing
pub shows-unsupported : (w : Premises) (f : Fact) → is_subset f.support w ≡ false → shows w f ≡ nothing (kind_of f.info)
shows-unsupported w f e = ap (λ b. if b then f.info else nothing (kind_of f.info)) e

-- what a fact shows is of its kind
pub kind-shows : (w : Premises) (f : Fact) → kind_of (shows w f) ≡ kind_of f.info
kind-shows w f = elim (cases_Bool (is_subset f.support w)) [
  | inl e ↦ ap kind_of (shows-supported w f e)
  | inr e ↦ ap kind_of (shows-unsupported w f e) ∙ kind-closest (kind_of f.info) (λ v. true)
]

-- equal informations imply each other
pub implies_same : (i j : Info) → i ≡ j → Implies i j
implies_same i j same v e = subst (λ (x : Info). allows x v ≡ true) same e

-- what implies the fact if its support is believed implies what it shows
implies_shown : (i : Info) (w : Premises) (f : Fact) → kind_of i ≡ kind_of f.info
    → (is_subset f.support w ≡ true → Implies i f.info) → Implies i (shows w f)
implies_shown i w f of_kind says = elim (cases_Bool (is_subset f.support w)) [
  | inl e ↦ subst (λ (x : Info). Implies i x) (sym (shows-supported w f e)) (says e)
  | inr e ↦ subst (λ (x : Info). Implies i x) (sym (shows-unsupported w f e)) (implies_nothing i (kind_of f.info) of_kind)
]

-- a fact says at least what it shows
pub says_shown : (w : Premises) (f : Fact) → Implies f.info (shows w f)
says_shown w f = implies_shown f.info w f (λ _. kind_of f.info) (λ _ v e. e)

-- a larger worldview shows at least as much
pub larger_shows : (v w : Premises) (f : Fact) → is_subset v w ≡ true → Implies (shows w f) (shows v f)
larger_shows v w f sub = implies_shown (shows w f) v f (kind-shows w f)
    (λ e. implies_same _ _ (shows-supported w f (is_subset_trans f.support v w e sub)))

-- what subsumes a fact of its kind shows at least as much in every worldview
pub subsumption_shows : (w : Premises) (a b : Fact) → kind_of a.info ≡ kind_of b.info → Subsumes a b → Implies (shows w a) (shows w b)
subsumption_shows w a b k s = implies_shown (shows w a) w b (kind-shows w a ∙ k)
    (λ e. subst (λ (x : Info). Implies x b.info) (sym (shows-supported w a (is_subset_trans a.support b.support w s.1 e))) s.0)

-- subsumption is transitive
pub subsumes_trans : (a b c : Fact) → Subsumes a b → Subsumes b c → Subsumes a c
subsumes_trans a b c s t = (λ v e. t.0 v (s.0 v e), is_subset_trans a.support b.support c.support s.1 t.1)

-- each fact subsumes itself
pub subsumes_refl : (a : Fact) → Subsumes a a
subsumes_refl a = (λ v e. e, is_subset_refl a.support)

-- facts of one kind that subsume each other are equal
pub subsumes_antisym : (a b : Fact) → kind_of a.info ≡ kind_of b.info → Subsumes a b → Subsumes b a → a ≡ b
subsumes_antisym a b k s t =
    let info : a.info ≡ b.info = Implies-antisym a.info b.info k s.0 t.0 in
    let support : a.support ≡ b.support = is_subset_antisym a.support b.support s.1 t.1 in
    λ i. record { info = info i; support = support i }
