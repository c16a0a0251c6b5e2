-- Told facts, stored as supports and informations side by side: the place of a fact, and what the
-- facts show once one more is told.
use Rattle.std.proofs.Common.{◌≡◌, ℕ, zero, suc, ◌+◌, ◌<◌, ◌≤◌, Bool, false, not, List, [], ◌∷◌, ◌++◌, Some, None, length, get_or, set, take, map, slice_get, refl, sym, ◌∙◌, ap, subst, arith}
use Rattle.std.specs.Prelude.{position, nat_lt}
use Rattle.std.specs.List.{position_or_len}
use Rattle.std.specs.List.{AllByRecursion, IsDistinct}
use mathlib.Core.Bool.{cond}
use Rattle.std.proofs.lemmas.Map.Keys.{apart_from_distinct}
use Rattle.std.specs.Map.{keys_of, values_of}
use Rattle.std.proofs.lemmas.List.{map_push, length-map, length-take, take_more, get_or-map, get_or-take}
use Rattle.std.proofs.lemmas.List.Elements.{All-set}
use Rattle.std.proofs.lemmas.List.Quantifiers.{position-Some}
use Rattle.std.proofs.lemmas.Option.{get_or_from_slice_get, slice_get_within}
use Rattle.indexmap.specs.IndexMap.{insert_entry, set_value_at}
use Rattle.indexmap.proofs.MapLemmas.{insert_entry-absent, Missing-position}
use Rattle.pw_info.specs.declared.kind.Kind.{Kind}
use Rattle.pw_info.specs.declared.info.Info.{Info}
use Rattle.pw_info.specs.Information.{kind_of, meet}
use Rattle.pw_info.proofs.Informations.{kind-meet}
use Rattle.pw_premises.specs.Premises.{Premises}
use Rattle.pw_premises.specs.PremiseSubsets.{has_same_numbers, same_numbers_equal, same_numbers_equiv}
use Rattle.pw_facts.specs.declared.fact.Fact.{Fact}
use Rattle.pw_facts.specs.Facts.{shows}
use Rattle.pw_cells.specs.Cells.{shown_by}
use Rattle.pw_cells.specs.inside.OneCell.{AreOfKind, ShowsMore, facts_held, place_of_support}
use Rattle.pw_cells.proofs.Together.{kinds-push, shown-met, shown-push}

-- the facts are of the kind of one more, and show more by it
pub record GainOne (fact : Fact) (old new : List Fact) : Type 0 where
  pub kinds : AreOfKind (kind_of fact.info) new
  pub shown : ShowsMore fact old new

-- the first facts show what all but the last of them show, merged with what the last shows
pub shown_next : (k : Kind) (w : Premises) (told : List Fact) (i : ℕ) (fact : Fact) → (i < length told) × (fact ≡ get_or told i fact)
    → shown_by k w (take (i + 1) told) ≡ meet (shown_by k w (take i told)) (shows w fact)
shown_next k w told i fact at =
    ap (shown_by k w) (take_more told i fact at.0 ∙ ap (λ f. take i told ++ f ∷ []) (sym at.1))
    ∙ shown-push k w (take i told) fact

-- the first item that passes lies where the first does that passes another test, if each passes
-- what its image passes
prefix_mapped : {X Y : Type 0} (f : X → Y) (p : X → Bool) (q : Y → Bool) → ((x : X) → p x ≡ q (f x)) → (xs : List X) → position_or_len p xs ≡ position_or_len q (map f xs)
prefix_mapped f p q same [] = refl
prefix_mapped f p q same (x ∷ xs) = λ j. cond (not (same x j)) (1 + prefix_mapped f p q same xs j) 0

position_mapped : {X Y : Type 0} (f : X → Y) (p : X → Bool) (q : Y → Bool) → ((x : X) → p x ≡ q (f x)) → (xs : List X) → position p xs ≡ position q (map f xs)
position_mapped f p q same xs =
    let first = prefix_mapped f p q same xs in
    λ j. cond (nat_lt (first j) (sym (length-map xs f) j)) (Some (first j)) None

-- no item passes, if none does by its place
none_passes : {X : Type 0} (t : X → Bool) (xs : List X) → ((j : ℕ) (d : X) → j < length xs → t (get_or xs j d) ≡ false) → AllByRecursion (λ x. t x ≡ false) xs
none_passes t [] none = tt
none_passes t (x ∷ xs) none = (none 0 x (omega arith), none_passes t xs (λ j d within. none (suc j) d (omega arith)))

module _ {S : Type 0} (p : S → Premises) where
  -- ---- where a fact lies

  supports_held : (held : List (S × Info)) → map (λ f. f.support) (facts_held p held) ≡ map p (keys_of held)
  supports_held [] = refl
  supports_held (h ∷ hs) = ap (λ l. p h.0 ∷ l) (supports_held hs)

  length_held : (held : List (S × Info)) → length (facts_held p held) ≡ length held
  length_held held = length-map held _

  fact_held : (held : List (S × Info)) (place : ℕ) (s : S) (d : Fact) → place < length held
      → get_or (facts_held p held) place d ≡ record { info = get_or (values_of held) place d.info; support = p (get_or (keys_of held) place s) }
  fact_held [] place s d below = absurd (omega arith)
  fact_held (h ∷ hs) zero s d below = refl
  fact_held (h ∷ hs) (suc place) s d below = fact_held hs place s d (omega arith)

  -- a support and what is told at its place are the fact at that place
  pub fact_at : (held : List (S × Info)) (told : List Fact) (supports : List S) (infos : List Info) (place : ℕ) (s : S) (i : Info)
      → facts_held p held ≡ told → supports ≡ keys_of held → infos ≡ values_of held → place < length supports → s ≡ get_or supports place s → i ≡ get_or infos place i
      → (place < length told) × (record { info = i; support = p s } ≡ get_or told place (record { info = i; support = p s }))
  fact_at held told supports infos place s i view keys values below read_s read_i =
      let fact : Fact = record { info = i; support = p s } in
      let within : place < length held = omega (arith, below, ap length keys, length-map held (λ h. h.0)) in (
        omega (arith, within, ap length view, length_held held),
        (λ j. record { info = (read_i ∙ ap (λ l. get_or l place i) values) j; support = p ((read_s ∙ ap (λ l. get_or l place s) keys) j) })
            ∙ sym (fact_held held place s fact within)
            ∙ ap (λ (l : List Fact). get_or l place fact) view,
      )

  -- what is told at a place is of the kind of the facts
  pub told_kind : (k : Kind) (held : List (S × Info)) (told : List Fact) (s : S) (f : Fact) (place : ℕ) (was : Info)
      → facts_held p held ≡ told → AreOfKind k told → slice_get (values_of held) place ≡ Some was → kind_of was ≡ k
  told_kind k held told s f place was view kinds value =
      let within : place < length held = omega (arith, slice_get_within (values_of held) place was value, length-map held (λ h. h.1)) in
      sym (ap kind_of (get_or_from_slice_get (values_of held) place was f.info value))
      ∙ ap (λ (x : Fact). kind_of x.info) (sym (fact_held held place s f within) ∙ ap (λ (l : List Fact). get_or l place f) view)
      ∙ kinds place f (omega (arith, within, ap length view, length_held held))

  -- another information at the place of a fact's support makes another fact
  facts-set : (held : List (S × Info)) (place : ℕ) (s : S) (f : Fact) → p (get_or (keys_of held) place s) ≡ f.support
      → facts_held p (set_value_at held place f.info) ≡ set (facts_held p held) place f
  facts-set [] place s f e = refl
  facts-set (h ∷ hs) zero s f e = ap (λ u. record { info = f.info; support = u } ∷ facts_held p hs) e
  facts-set (h ∷ hs) (suc place) s f e = ap (λ l. record { info = h.1; support = p h.0 } ∷ l) (facts-set hs place s f e)

  -- ---- one more fact

  again : (held : List (S × Info)) (s : S) (f : Fact) (place : ℕ) (was info : Info) → AreOfKind (kind_of f.info) (facts_held p held)
      → place_of_support f.support (map p (keys_of held)) ≡ Some place → slice_get (values_of held) place ≡ Some was → info ≡ meet was f.info
      → GainOne f (facts_held p held) (facts_held p (set_value_at held place info))
  again held s f place was info kinds at value met =
      let k = kind_of f.info in
      let told = facts_held p held in
      let old : Fact = record { info = was; support = f.support } in
      let new : Fact = record { info = info; support = f.support } in
      let found = position-Some (has_same_numbers f.support) (map p (keys_of held)) place f.support at in
      let within : place < length (keys_of held) = omega (arith, found.0, length-map (keys_of held) p) in
      let below : place < length held = omega (arith, within, length-map held (λ h. h.0)) in
      let support : f.support ≡ p (get_or (keys_of held) place s) =
      (same_numbers_equal f.support _).0 found.1 ∙ get_or-map p (keys_of held) place s f.support within in
      let read : old ≡ get_or told place old =
      (λ j. record { info = sym (get_or_from_slice_get (values_of held) place was was value) j; support = support j })
      ∙ sym (fact_held held place s old below) in
      let was_kind : kind_of was ≡ k = told_kind k held told s f place was refl kinds value in
      subst (GainOne f told) (sym {A = List Fact} (facts-set held place s new (sym support))) (record {
        kinds = All-set (λ (x : Fact). kind_of x.info ≡ k) told place new (ap kind_of met ∙ kind-meet was f.info ∙ was_kind) kinds;
        shown = λ w. shown-met k w told place old f new kinds refl (omega (arith, below, length_held held)) read refl met refl;
      })

  -- a fact under a support that has a place is merged there
  pub told_again : (held : List (S × Info)) (told : List Fact) (s : S) (f : Fact) (place : ℕ) (was info : Info)
      → facts_held p held ≡ told → AreOfKind (kind_of f.info) told
      → place_of_support f.support (map (λ x. x.support) told) ≡ Some place → slice_get (values_of held) place ≡ Some was → info ≡ meet was f.info
      → GainOne f told (facts_held p (set_value_at held place info))
  told_again held told s f place was info view kinds at value met =
      subst (λ (l : List Fact). GainOne f l (facts_held p (set_value_at held place info))) view
      (again held s f place was info (subst (AreOfKind (kind_of f.info)) (sym {A = List Fact} view) kinds)
      (ap (place_of_support f.support) (sym (supports_held held) ∙ ap (map (λ (x : Fact). x.support)) view) ∙ at) value met)

  -- a fact that is appended to the others
  pub told_push : (held : List (S × Info)) (told : List Fact) (s : S) (f : Fact) → facts_held p held ≡ told → p s ≡ f.support
      → facts_held p (held ++ (s, f.info) ∷ []) ≡ told ++ f ∷ []
  told_push held told s f view support =
      map_push (λ h. record { info = h.1; support = p h.0 }) held (s, f.info)
      ∙ (λ j. view j ++ record { info = f.info; support = support j } ∷ [])

  module _ (eq : S → S → Bool) (same : (s t : S) → eq s t ≡ has_same_numbers (p s) (p t)) where
    -- the fact with a support lies where the support does
    pub place_held : (held : List (S × Info)) (told : List Fact) (s : S) → facts_held p held ≡ told
        → position (eq s) (keys_of held) ≡ place_of_support (p s) (map (λ f. f.support) told)
    place_held held told s view =
        position_mapped p (eq s) (has_same_numbers (p s)) (same s) (keys_of held)
        ∙ ap (place_of_support (p s)) (sym (supports_held held) ∙ ap (map (λ (f : Fact). f.support)) view)

    -- and under one that has none it goes last
    pub told_last : (held held' : List (S × Info)) (told : List Fact) (s : S) (f : Fact) → facts_held p held ≡ told → AreOfKind (kind_of f.info) told → p s ≡ f.support
        → place_of_support (p s) (map (λ x. x.support) told) ≡ None → held' ≡ insert_entry eq held s f.info
        → GainOne f told (facts_held p held')
    told_last held held' told s f view kinds support none inserted =
        let absent = Missing-position (eq s) held (place_held held told s view ∙ none) in
        let after : facts_held p held' ≡ told ++ f ∷ [] =
        ap (facts_held p) (inserted ∙ insert_entry-absent eq s f.info held absent.absent) ∙ told_push held told s f view support in
        subst (GainOne f told) (sym {A = List Fact} after) (record {
          kinds = kinds-push (kind_of f.info) told f kinds refl;
          shown = λ w. shown-push (kind_of f.info) w told f;
        })

  -- no fact is left after the supports
  pub all_held : (held : List (S × Info)) (told : List Fact) (supports : List S) (place : ℕ) → facts_held p held ≡ told → supports ≡ keys_of held → length supports ≤ place
      → length told ≤ place
  all_held held told supports place view keys all =
      omega (arith, all, ap length keys, length-map held (λ h. h.0), sym (ap length view) ∙ length_held held)

-- ---- wide supports

module _ {S : Type 0} (p : S → Premises) (eq : S → S → Bool) (same : (s t : S) → eq s t ≡ has_same_numbers (p s) (p t)) where
  -- the facts at the first places, and the next one, under a support that none of them has
  pub one_wider : (held : List (S × Info)) (wide wide' : List (Premises × Info)) (told : List Fact) (supports : List S) (infos : List Info) (place : ℕ) (s : S) (support : Premises) (i : Info)
      → facts_held p held ≡ told → facts_held (λ t. t) wide ≡ take place told → IsDistinct eq (keys_of held)
      → supports ≡ keys_of held → infos ≡ values_of held → place < length supports → s ≡ get_or supports place s → i ≡ get_or infos place i
      → support ≡ p s → wide' ≡ insert_entry has_same_numbers wide support i
      → facts_held (λ t. t) wide' ≡ take (place + 1) told
  one_wider held wide wide' told supports infos place s support i view front distinct keys values below read_s read_i widened inserted =
      let fact : Fact = record { info = i; support = p s } in
      let at = fact_at p held told supports infos place s i view keys values below read_s read_i in
      let within : place < length (keys_of held) = omega (arith, below, ap length keys) in
      let here : s ≡ get_or (keys_of held) place s = read_s ∙ ap (λ l. get_or l place s) keys in
      let other : (j : ℕ) (d : Premises) → j < length (keys_of wide) → has_same_numbers support (get_or (keys_of wide) j d) ≡ false = λ j d inside.
      let wider : j < length wide = omega (arith, inside, length-map wide (λ h. h.0)) in
      let before : j < place = omega (arith, wider, length_held (λ t. t) wide, ap length front, length-take place told) in
      let there : j < length held = omega (arith, before, within, length-map held (λ h. h.0)) in
      let key : get_or (keys_of wide) j d ≡ p (get_or (keys_of held) j s) =
      ap (λ (f : Fact). f.support) (
      sym (fact_held (λ t. t) wide j d fact wider) ∙ ap (λ (l : List Fact). get_or l j fact) front ∙ get_or-take place told j fact before
      ∙ ap (λ (l : List Fact). get_or l j fact) (sym {A = List Fact} view) ∙ fact_held p held j s fact there) in
      (λ t. has_same_numbers ((widened ∙ ap p here) t) (key t))
      ∙ same_numbers_equiv.symm (p (get_or (keys_of held) place s)) (p (get_or (keys_of held) j s))
      ∙ sym (same (get_or (keys_of held) j s) (get_or (keys_of held) place s))
      ∙ apart_from_distinct eq (keys_of held) j place s distinct before within in
      ap (facts_held (λ t. t)) (inserted ∙ insert_entry-absent has_same_numbers support i wide (none_passes (has_same_numbers support) (keys_of wide) other))
      ∙ told_push (λ t. t) wide (take place told) support fact front widened
      ∙ sym (take_more told place fact at.0 ∙ ap (λ f. take place told ++ f ∷ []) (sym at.1))
