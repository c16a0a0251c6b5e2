-- What facts of one kind show together: a value stays possible exactly if each of them leaves it
-- possible.
use Rattle.std.proofs.Common.{◌≡◌, ℕ, ℤ, ◌<◌, ◌-◌, reverse, true, false, ◌&&◌, refl, length, get_or, set, get_or-set_same, get_or-set_other, length-set, arith, List, [], ◌∷◌, ◌++◌, inl, inr, sym, ◌∙◌, ap, subst}
use Rattle.std.specs.Prelude.{fold, All, Contains}
use Rattle.std.specs.FinSet.{is_subset}
use Rattle.std.proofs.lemmas.Bool.{cases_Bool, cases_eq}
use Rattle.std.proofs.lemmas.List.{get_or_default, get_or-reverse, length-reverse, reverse-reverse}
use Rattle.std.proofs.lemmas.List.Elements.{All-nil, All-cons, All-head, All-tail, All-weaker, All-push, All-set, All-contains, Contains-push, Contains-append_left, All-contains_itself}
use Rattle.std.proofs.lemmas.List.Sums.{fold_push}
use Rattle.pw_kinds.proofs.Order.{both_true, true_both}
use Rattle.pw_info.specs.declared.kind.Kind.{Kind}
use Rattle.pw_info.specs.declared.info.Info.{Info}
use Rattle.pw_info.specs.Information.{kind_of, is_value, allows, meet, nothing, Implies}
use Rattle.pw_info.proofs.Informations.{kind-closest, kind-meet, allows-nothing, allows-meet, allows_value, meet_self, meet_nothing, meet_implied, implied_from_meet, Implies-antisym}
use Rattle.pw_premises.specs.Premises.{Premises}
use Rattle.pw_premises.specs.PremiseSubsets.{is_subset_refl}
use Rattle.pw_facts.specs.declared.fact.Fact.{Fact}
use Rattle.pw_facts.specs.Facts.{shows}
use Rattle.pw_facts.proofs.Shown.{shows-supported, shows-unsupported, kind-shows, larger_shows, subsumption_shows}
use Rattle.pw_cells.specs.Cells.{shown_by, IsSubsumedBy, IsUnsaid}
use Rattle.pw_cells.specs.inside.OneCell.{AreOfKind, IsRest}
use Rattle.pw_cells.proofs.Closest.{meet_mono}

-- in the worldview the fact leaves the value possible
abbrev LeavesOpen : Premises → ℤ → Fact → Type 0
LeavesOpen w v f = allows (shows w f) v ≡ true

-- ---- from any information on

abbrev pub with_shown : Premises → Info → Fact → Info
with_shown w i f = meet i (shows w f)

pub kind-fold : (k : Kind) (w : Premises) (i : Info) (fs : List Fact) → kind_of i ≡ k → kind_of (fold (with_shown w) i fs) ≡ k
kind-fold k w i [] e = e
kind-fold k w i (f ∷ fs) e = kind-fold k w (meet i (shows w f)) fs (kind-meet i (shows w f) ∙ e)

-- the information and what a fact of its kind shows are of one kind
same_kind : (k : Kind) (w : Premises) (i : Info) (f : Fact) → kind_of i ≡ k → kind_of f.info ≡ k → kind_of i ≡ kind_of (shows w f)
same_kind k w i f e h = e ∙ sym (kind-shows w f ∙ h)

fold_allows : (k : Kind) (w : Premises) (v : ℤ) (i : Info) (fs : List Fact) → kind_of i ≡ k → AreOfKind k fs
    → allows (fold (with_shown w) i fs) v ≡ true → (allows i v ≡ true) × All (LeavesOpen w v) fs
fold_allows k w v i [] e all h = (h, All-nil (LeavesOpen w v))
fold_allows k w v i (f ∷ fs) e all h =
    let is : kind_of f.info ≡ k = All-head (λ f. kind_of f.info ≡ k) f fs all in
    let rest : (allows (meet i (shows w f)) v ≡ true) × All (LeavesOpen w v) fs =
    fold_allows k w v (meet i (shows w f)) fs (kind-meet i (shows w f) ∙ e) (All-tail (λ f. kind_of f.info ≡ k) f fs all) h in
    let both : (allows i v ≡ true) × (allows (shows w f) v ≡ true) = true_both _ _ (sym (allows-meet i (shows w f) (same_kind k w i f e is) v) ∙ rest.0) in
    (both.0, All-cons (LeavesOpen w v) f fs both.1 rest.1)

allows_fold : (k : Kind) (w : Premises) (v : ℤ) (i : Info) (fs : List Fact) → kind_of i ≡ k → AreOfKind k fs
    → allows i v ≡ true → All (LeavesOpen w v) fs → allows (fold (with_shown w) i fs) v ≡ true
allows_fold k w v i [] e all h open_all = h
allows_fold k w v i (f ∷ fs) e all h open_all =
    let is : kind_of f.info ≡ k = All-head (λ f. kind_of f.info ≡ k) f fs all in
    allows_fold k w v (meet i (shows w f)) fs (kind-meet i (shows w f) ∙ e) (All-tail (λ f. kind_of f.info ≡ k) f fs all)
    (allows-meet i (shows w f) (same_kind k w i f e is) v ∙ both_true _ _ h (All-head (LeavesOpen w v) f fs open_all))
    (All-tail (LeavesOpen w v) f fs open_all)

-- ---- together

pub kind-shown_by : (k : Kind) (w : Premises) (fs : List Fact) → kind_of (shown_by k w fs) ≡ k
kind-shown_by k w fs = kind-fold k w (nothing k) fs (kind-closest k (λ v. true))

shown_allows : (k : Kind) (w : Premises) (v : ℤ) (fs : List Fact) → AreOfKind k fs → allows (shown_by k w fs) v ≡ true → All (LeavesOpen w v) fs
shown_allows k w v fs all h = (fold_allows k w v (nothing k) fs (kind-closest k (λ x. true)) all h).1

allows_shown : (k : Kind) (w : Premises) (v : ℤ) (fs : List Fact) → AreOfKind k fs → is_value k v ≡ true → All (LeavesOpen w v) fs → allows (shown_by k w fs) v ≡ true
allows_shown k w v fs all value = allows_fold k w v (nothing k) fs (kind-closest k (λ x. true)) all (allows-nothing k v ∙ value)

-- what is possible is a value of the kind
shown_value : (k : Kind) (w : Premises) (v : ℤ) (fs : List Fact) → allows (shown_by k w fs) v ≡ true → is_value k v ≡ true
shown_value k w v fs h = subst (λ (x : Kind). is_value x v ≡ true) (kind-shown_by k w fs) (allows_value (shown_by k w fs) v h)

-- facts that leave no more possible say at least as much together
shown_implies : (k : Kind) (w u : Premises) (xs ys : List Fact) → AreOfKind k xs → AreOfKind k ys
    → ((v : ℤ) → All (LeavesOpen w v) xs → All (LeavesOpen u v) ys) → Implies (shown_by k w xs) (shown_by k u ys)
shown_implies k w u xs ys all_x all_y open_y v h =
    allows_shown k u v ys all_y (shown_value k w v xs h) (open_y v (shown_allows k w v xs all_x h))

-- facts that leave the same possible say the same together
same_shown : (k : Kind) (w : Premises) (xs ys : List Fact) → AreOfKind k xs → AreOfKind k ys
    → ((v : ℤ) → All (LeavesOpen w v) xs → All (LeavesOpen w v) ys) → ((v : ℤ) → All (LeavesOpen w v) ys → All (LeavesOpen w v) xs)
    → shown_by k w xs ≡ shown_by k w ys
same_shown k w xs ys all_x all_y to from = Implies-antisym _ _ (kind-shown_by k w xs ∙ sym (kind-shown_by k w ys))
    (shown_implies k w w xs ys all_x all_y to) (shown_implies k w w ys xs all_y all_x from)

-- what holds of each element holds of each, the last first
pub all_reversed : {X : Type 0} (P : X → Type 0) (xs : List X) → All P xs → All P (reverse xs)
all_reversed P xs all j d below =
    let there : j < length xs = subst (λ n. j < n) (length-reverse xs) below in
    subst P (sym (get_or-reverse xs j d there)) (all (length xs - 1 - j) d (omega (arith, there)))

-- in reverse order they say the same together
pub shown-reversed : (k : Kind) (w : Premises) (fs : List Fact) → AreOfKind k fs → shown_by k w (reverse fs) ≡ shown_by k w fs
shown-reversed k w fs all =
    same_shown k w (reverse fs) fs (all_reversed (λ f. kind_of f.info ≡ k) fs all) all
    (λ v open_all. subst (All (LeavesOpen w v)) (reverse-reverse fs) (all_reversed (LeavesOpen w v) (reverse fs) open_all))
    (λ v. all_reversed (LeavesOpen w v) fs)

-- with one more fact they say what both say
pub shown-push : (k : Kind) (w : Premises) (fs : List Fact) (f : Fact) → shown_by k w (fs ++ f ∷ []) ≡ meet (shown_by k w fs) (shows w f)
shown-push k w fs f = fold_push (with_shown w) (nothing k) fs f

-- in a larger worldview they say at least as much, for facts of any kinds
larger_fold : (v w : Premises) → is_subset v w ≡ true → (i j : Info) (fs : List Fact) → kind_of i ≡ kind_of j → Implies i j
    → Implies (fold (with_shown w) i fs) (fold (with_shown v) j fs)
larger_fold v w sub i j [] k implies = implies
larger_fold v w sub i j (f ∷ fs) k implies =
    larger_fold v w sub (meet i (shows w f)) (meet j (shows v f)) fs (kind-meet i (shows w f) ∙ k ∙ sym (kind-meet j (shows v f)))
    (meet_mono i j (shows w f) (shows v f) k implies (larger_shows v w f sub))

pub larger_shown : (k : Kind) (v w : Premises) (fs : List Fact) → is_subset v w ≡ true → Implies (shown_by k w fs) (shown_by k v fs)
larger_shown k v w fs sub = larger_fold v w sub (nothing k) (nothing k) fs refl (λ x h. h)

-- ---- merges with what a fact shows

pub meet_first : (i j : Info) → kind_of i ≡ kind_of j → Implies (meet i j) i
meet_first i j k v h = (true_both (allows i v) (allows j v) (sym (allows-meet i j k v) ∙ h)).0

-- two merges with one information are related as the merged are
pub meet_keeps : (i j s : Info) → kind_of i ≡ kind_of s → kind_of j ≡ kind_of s → Implies i j → Implies (meet i s) (meet j s)
meet_keeps i j s k l implies v h =
    let both : (allows i v ≡ true) × (allows s v ≡ true) = true_both (allows i v) (allows s v) (sym (allows-meet i s k v) ∙ h) in
    allows-meet j s l v ∙ both_true _ _ (implies v both.0) both.1

-- what facts show together and what one more of their kind shows are of one kind
pub kind_together : (k : Kind) (w : Premises) (fs : List Fact) (f : Fact) → kind_of f.info ≡ k → kind_of (shown_by k w fs) ≡ kind_of (shows w f)
kind_together k w fs f is = same_kind k w (shown_by k w fs) f (kind-shown_by k w fs) is

-- nothing that one more fact shows adds nothing
pub shown_unsupported : (k : Kind) (w : Premises) (fs : List Fact) (f : Fact) → kind_of f.info ≡ k → is_subset f.support w ≡ false
    → meet (shown_by k w fs) (shows w f) ≡ shown_by k w fs
shown_unsupported k w fs f is e =
    ap (λ s. meet (shown_by k w fs) s) (shows-unsupported w f e ∙ ap nothing (is ∙ sym (kind-shown_by k w fs)))
    ∙ meet_nothing (shown_by k w fs)

-- ---- a fact that one of them subsumes adds nothing

pub shown_known : (k : Kind) (w : Premises) (fs : List Fact) (f : Fact) → AreOfKind k fs → kind_of f.info ≡ k → IsSubsumedBy fs f
    → meet (shown_by k w fs) (shows w f) ≡ shown_by k w fs
shown_known k w fs f all is known = meet_implied _ _ (kind_together k w fs f is) (λ v h.
    let held : Fact = known.0 in
    let of_kind : kind_of held.info ≡ k = All-contains (λ f. kind_of f.info ≡ k) fs held all known.1 in
    subsumption_shows w held f (of_kind ∙ sym is) known.2 v (All-contains (LeavesOpen w v) fs held (shown_allows k w v fs all h) known.1))

-- where less is shown on a fact's own premises, none of them subsumes it
pub unsaid_unsubsumed : (k : Kind) (fs : List Fact) (f : Fact) → AreOfKind k fs → kind_of f.info ≡ k → IsUnsaid (shown_by k f.support fs) f.info
    → IsSubsumedBy fs f → ⊥
unsaid_unsubsumed k fs f all is unsaid known =
    unsaid (subst (λ (i : Info). Implies (shown_by k f.support fs) i) (shows-supported f.support f (is_subset_refl f.support))
    (implied_from_meet (shown_by k f.support fs) (shows f.support f) (kind_together k f.support fs f is) (shown_known k f.support fs f all is known)))

-- ---- a fact that subsumes others stands for them

pub kinds-push : (k : Kind) (fs : List Fact) (f : Fact) → AreOfKind k fs → kind_of f.info ≡ k → AreOfKind k (fs ++ f ∷ [])
kinds-push k fs f all is = All-push (λ f. kind_of f.info ≡ k) fs f all is

pub kinds-rest : (k : Kind) (f : Fact) (fs rest : List Fact) → AreOfKind k fs → IsRest f fs rest → AreOfKind k rest
kinds-rest k f fs rest all is = All-weaker (Contains fs) (λ f. kind_of f.info ≡ k) (λ x. All-contains (λ f. kind_of f.info ≡ k) fs x all) rest is.within

-- what holds of a list with one more element holds of the list, and of the element
all_front : {X : Type 0} (P : X → Type 0) (xs : List X) (x : X) → All P (xs ++ x ∷ []) → All P xs
all_front P xs x all = All-weaker (Contains xs) P (λ y held. All-contains P (xs ++ x ∷ []) y all (Contains-append_left xs (x ∷ []) y held)) xs (All-contains_itself xs)

all_last : {X : Type 0} (P : X → Type 0) (xs : List X) (x : X) → All P (xs ++ x ∷ []) → P x
all_last P xs x all = All-contains P (xs ++ x ∷ []) x all (Contains-push xs x)

pub shown-rest : (k : Kind) (w : Premises) (f : Fact) (fs rest : List Fact) → AreOfKind k fs → kind_of f.info ≡ k → IsRest f fs rest
    → shown_by k w (rest ++ f ∷ []) ≡ meet (shown_by k w fs) (shows w f)
shown-rest k w f fs rest all is left = same_shown k w (rest ++ f ∷ []) (fs ++ f ∷ []) (kinds-push k rest f (kinds-rest k f fs rest all left) is) (kinds-push k fs f all is) to from
    ∙ shown-push k w fs f where
      to : (v : ℤ) → All (LeavesOpen w v) (rest ++ f ∷ []) → All (LeavesOpen w v) (fs ++ f ∷ [])
      to v open_all =
          let last : LeavesOpen w v f = all_last (LeavesOpen w v) rest f open_all in
          All-push (LeavesOpen w v) fs f (λ j d l. elim (left.stays j d l) [
            | inl stays ↦ All-contains (LeavesOpen w v) rest _ (all_front (LeavesOpen w v) rest f open_all) stays
            | inr subsumed ↦ subsumption_shows w f _ (is ∙ sym (all j d l)) subsumed v last
          ]) last

      from : (v : ℤ) → All (LeavesOpen w v) (fs ++ f ∷ []) → All (LeavesOpen w v) (rest ++ f ∷ [])
      from v open_all =
          All-push (LeavesOpen w v) rest f
          (All-weaker (Contains fs) (LeavesOpen w v) (λ x. All-contains (LeavesOpen w v) fs x (all_front (LeavesOpen w v) fs f open_all)) rest left.within)
          (all_last (LeavesOpen w v) fs f open_all)

-- ---- facts of one support stand for their merge

shows-met : (w : Premises) (a f m : Fact) → kind_of a.info ≡ kind_of f.info → a.support ≡ f.support → m.info ≡ meet a.info f.info → m.support ≡ a.support
    → shows w m ≡ meet (shows w a) (shows w f)
shows-met w a f m k alike info support = elim (cases_Bool (is_subset a.support w)) [
  | inl e ↦
      shows-supported w m (ap (λ s. is_subset s w) support ∙ e) ∙ info
      ∙ sym (λ i. meet (shows-supported w a e i) (shows-supported w f (ap (λ s. is_subset s w) (sym alike) ∙ e) i))
  | inr e ↦
      shows-unsupported w m (ap (λ s. is_subset s w) support ∙ e)
      ∙ ap nothing (ap kind_of info ∙ kind-meet a.info f.info)
      ∙ sym (
      (λ i. meet (shows-unsupported w a e i) (shows-unsupported w f (ap (λ s. is_subset s w) (sym alike) ∙ e) i))
      ∙ ap (λ kind. meet (nothing (kind_of a.info)) (nothing kind)) (sym k)
      ∙ meet_self (nothing (kind_of a.info))
      )
]

pub shown-met : (k : Kind) (w : Premises) (fs : List Fact) (p : ℕ) (a f m : Fact) → AreOfKind k fs → kind_of f.info ≡ k → p < length fs → a ≡ get_or fs p a
    → a.support ≡ f.support → m.info ≡ meet a.info f.info → m.support ≡ a.support
    → shown_by k w (set fs p m) ≡ meet (shown_by k w fs) (shows w f)
shown-met k w fs p a f m all is within read alike info support = same_shown k w (set fs p m) (fs ++ f ∷ []) kinds (kinds-push k fs f all is) to from ∙ shown-push k w fs f where
  a_kind : kind_of a.info ≡ k
  a_kind = subst (λ (x : Fact). kind_of x.info ≡ k) (sym read) (all p a within)

  kinds : AreOfKind k (set fs p m)
  kinds = All-set (λ f. kind_of f.info ≡ k) fs p m (ap kind_of info ∙ kind-meet a.info f.info ∙ a_kind) all

  same : (v : ℤ) → allows (shows w m) v ≡ (allows (shows w a) v && allows (shows w f) v)
  same v =
      ap (λ (i : Info). allows i v) (shows-met w a f m (a_kind ∙ sym is) alike info support)
      ∙ allows-meet (shows w a) (shows w f) (kind-shows w a ∙ a_kind ∙ sym (kind-shows w f ∙ is)) v

  to : (v : ℤ) → All (LeavesOpen w v) (set fs p m) → All (LeavesOpen w v) (fs ++ f ∷ [])
  to v open_all =
      let met : LeavesOpen w v m = subst (LeavesOpen w v) (get_or-set_same fs p m m within) (open_all p m (omega (arith, length-set fs p m))) in
      let both : LeavesOpen w v a × LeavesOpen w v f = true_both (allows (shows w a) v) (allows (shows w f) v) (sym (same v) ∙ met) in
      All-push (LeavesOpen w v) fs f (λ j d l. elim (cases_eq j p) [
        | inl e ↦ subst (LeavesOpen w v) (read ∙ get_or_default fs p a d within ∙ ap (λ n. get_or fs n d) (sym e)) both.0
        | inr ne ↦ subst (LeavesOpen w v) (get_or-set_other fs p j m d ne) (open_all j d (omega (arith, length-set fs p m)))
      ]) both.1

  from : (v : ℤ) → All (LeavesOpen w v) (fs ++ f ∷ []) → All (LeavesOpen w v) (set fs p m)
  from v open_all =
      let front : All (LeavesOpen w v) fs = all_front (LeavesOpen w v) fs f open_all in
      All-set (LeavesOpen w v) fs p m (same v ∙ both_true _ _ (subst (LeavesOpen w v) (sym read) (front p a within)) (all_last (LeavesOpen w v) fs f open_all)) front
