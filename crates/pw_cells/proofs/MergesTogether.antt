-- The merge of the visible facts, one more fact at a time.
use Rattle.std.proofs.Common.{◌≡◌, ℕ, Bool, true, false, cond, List, [], ◌∷◌, ◌++◌, inl, inr, refl, sym, ◌∙◌, ap, subst}
use Rattle.std.specs.Prelude.{Contains}
use Rattle.std.specs.Cmp.{nat_cmp_total}
use Rattle.std.specs.Ordering.{nat_cmp}
use Rattle.std.specs.FinSet.{contains, empty, union, is_subset, contains-empty, contains-union, is_subset-contains}
use Rattle.std.proofs.lemmas.Bool.{cases_Bool, or_cases}
use Rattle.std.proofs.lemmas.List.{append-nil}
use Rattle.std.proofs.lemmas.List.Elements.{Contains-push, Contains-append_left, filter-append}
use Rattle.pw_kinds.proofs.Order.{not_both, is_false}
use Rattle.pw_info.specs.declared.kind.Kind.{Kind}
use Rattle.pw_info.specs.declared.info.Info.{Info}
use Rattle.pw_info.specs.Information.{kind_of, allows, meet, nothing, Implies}
use Rattle.pw_info.proofs.Informations.{allows-nothing, allows_value, Implies-antisym, kind-meet}
use Rattle.pw_premises.specs.PremiseSubsets.{is_subset_refl, is_subset_trans, empty_is_subset, union_is_subset}
use Rattle.pw_premises.specs.Premises.{Premises}
use Rattle.pw_facts.specs.declared.fact.Fact.{Fact}
use Rattle.pw_facts.specs.Facts.{shows, IsMerge, MergesTo, visible_facts}
use Rattle.pw_facts.proofs.Shown.{shows-supported, shows-unsupported, kind-shows}
use Rattle.pw_cells.specs.Cells.{shown_by}
use Rattle.pw_cells.specs.inside.OneCell.{StandsFor}
use Rattle.pw_cells.proofs.Together.{kind-shown_by, larger_shown, shown-push, shown_unsupported, kind_together, meet_keeps}

-- nothing, under no premise, is the merge of no fact
pub merge_none : (k : Kind) (w : Premises) → StandsFor k w [] (record { info = nothing k; support = empty })
merge_none k w = record {
  info = refl;
  within = empty_is_subset w;
  same = refl;
  rests = λ p held. absurd (not_both _ held (contains-empty nat_cmp p));
}

-- the premises of a fact of the list are premises of a fact of a longer one
rests_longer : (fs : List Fact) (f : Fact) (p : ℕ) → (x : Fact) × Contains fs x × (contains x.support p ≡ true)
    → (x : Fact) × Contains (fs ++ f ∷ []) x × (contains x.support p ≡ true)
rests_longer fs f p found = (found.0, Contains-append_left fs (f ∷ []) found.0 found.1, found.2)

-- a fact that is not visible changes nothing
pub merge_hidden : (k : Kind) (w : Premises) (fs : List Fact) (f a : Fact) → kind_of f.info ≡ k → StandsFor k w fs a → is_subset f.support w ≡ false
    → StandsFor k w (fs ++ f ∷ []) a
merge_hidden k w fs f a is merge hidden = record {
  info = merge.info ∙ sym (shown-push k w fs f ∙ shown_unsupported k w fs f is hidden);
  within = merge.within;
  same =
      shown-push k a.support fs f
      ∙ shown_unsupported k a.support fs f is (is_false _ (λ sub. not_both _ (is_subset_trans f.support a.support w sub merge.within) hidden))
      ∙ merge.same;
  rests = λ p held. rests_longer fs f p (merge.rests p held);
}

-- what the facts show together in any worldview implies what their merge shows
shown_implies_merge : (k : Kind) (w u : Premises) (fs : List Fact) (a : Fact) → StandsFor k w fs a → Implies (shown_by k u fs) (shows u a)
shown_implies_merge k w u fs a merge v h = elim (cases_Bool (is_subset a.support u)) [
  | inl e ↦
      subst (λ (i : Info). allows i v ≡ true) (merge.same ∙ sym (shows-supported u a e)) (larger_shown k a.support u fs e v h)
  | inr e ↦
      subst (λ (i : Info). allows i v ≡ true) (ap nothing (kind-shown_by k u fs ∙ sym (ap kind_of merge.info ∙ kind-shown_by k w fs)) ∙ sym (shows-unsupported u a e))
      (allows-nothing (kind_of (shown_by k u fs)) v ∙ allows_value (shown_by k u fs) v h)
]

-- with a visible fact, by what the merge of two facts is
pub merge_visible : (k : Kind) (w : Premises) (fs : List Fact) (f a m : Fact) → kind_of f.info ≡ k → StandsFor k w fs a → is_subset f.support w ≡ true
    → m.info ≡ meet a.info f.info → ((u : Premises) → is_subset m.support u ≡ true → meet (shows u a) (shows u f) ≡ m.info)
    → is_subset m.support (union a.support f.support) ≡ true → StandsFor k w (fs ++ f ∷ []) m
merge_visible k w fs f a m is merge visible info both rests = record {
  info = info_is;
  within = within;
  same = Implies-antisym _ _ (kind-shown_by k m.support more ∙ sym m_kind)
      (subst (λ (i : Info). Implies (shown_by k m.support more) i) (both m.support (is_subset_refl m.support)) least)
      (subst (λ (i : Info). Implies i (shown_by k m.support more)) (sym info_is) (larger_shown k m.support w more within));
  rests = λ p held. elim (or_cases (contains a.support p) (contains f.support p)
      (sym (contains-union nat_cmp_total a.support f.support p) ∙ is_subset-contains nat_cmp_total m.support _ rests p held)) [
        | inl e ↦ rests_longer fs f p (merge.rests p e)
        | inr e ↦ (f, Contains-push fs f, e)
      ];
} where
  more : List Fact
  more = fs ++ f ∷ []

  a_kind : kind_of a.info ≡ k
  a_kind = ap kind_of merge.info ∙ kind-shown_by k w fs

  m_kind : kind_of m.info ≡ k
  m_kind = ap kind_of info ∙ kind-meet a.info f.info ∙ a_kind

  info_is : m.info ≡ shown_by k w (fs ++ f ∷ [])
  info_is = info ∙ (λ i. meet (merge.info i) (sym (shows-supported w f visible) i)) ∙ sym (shown-push k w fs f)

  within : is_subset m.support w ≡ true
  within = is_subset_trans m.support _ w rests (union_is_subset a.support f.support w merge.within visible)

  least : Implies (shown_by k m.support (fs ++ f ∷ [])) (meet (shows m.support a) (shows m.support f))
  least = subst (λ (i : Info). Implies i (meet (shows m.support a) (shows m.support f))) (sym (shown-push k m.support fs f))
      (meet_keeps (shown_by k m.support fs) (shows m.support a) (shows m.support f) (kind_together k m.support fs f is)
      (kind-shows m.support a ∙ a_kind ∙ sym (kind-shows m.support f ∙ is)) (shown_implies_merge k w m.support fs a merge))

-- ---- one after another

merges_push : (first : Fact) (fs : List Fact) (f a m : Fact) → MergesTo first fs a → IsMerge a f m → MergesTo first (fs ++ f ∷ []) m
merges_push first [] f a m is_first merge = (m, subst (λ (x : Fact). IsMerge x f m) is_first merge, refl)
merges_push first (x ∷ fs) f a m merges merge = (merges.0, merges.1, merges_push merges.0 fs f a m merges.2 merge)

pub visible-push : (w : Premises) (fs : List Fact) (f : Fact) (visible : Bool) → is_subset f.support w ≡ visible
    → visible_facts w (fs ++ f ∷ []) ≡ visible_facts w fs ++ cond visible (f ∷ []) []
visible-push w fs f visible e = filter-append (λ x. is_subset x.support w) fs (f ∷ []) ∙ ap (λ b. visible_facts w fs ++ cond b (f ∷ []) []) e

-- a visible fact is merged last
pub merges_visible : (first : Fact) (w : Premises) (fs : List Fact) (f a m : Fact) → is_subset f.support w ≡ true
    → MergesTo first (visible_facts w fs) a → IsMerge a f m → MergesTo first (visible_facts w (fs ++ f ∷ [])) m
merges_visible first w fs f a m visible merges merge =
    subst (λ (xs : List Fact). MergesTo first xs m) (sym (visible-push w fs f true visible)) (merges_push first (visible_facts w fs) f a m merges merge)

-- a fact that is not visible is not one of them
pub merges_hidden : (first : Fact) (w : Premises) (fs : List Fact) (f a : Fact) → is_subset f.support w ≡ false
    → MergesTo first (visible_facts w fs) a → MergesTo first (visible_facts w (fs ++ f ∷ [])) a
merges_hidden first w fs f a hidden merges =
    subst (λ (xs : List Fact). MergesTo first xs a) (sym (visible-push w fs f false hidden ∙ append-nil (visible_facts w fs))) merges
