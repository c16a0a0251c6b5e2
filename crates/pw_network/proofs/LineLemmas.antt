-- The lines of inner cells and of instances, and the supports of instances, before and after an
-- attachment.
use Rattle.std.proofs.Common.{◌≡◌, ◌≢◌, ℕ, ◌+◌, ◌-◌, ◌<◌, ◌≤◌, inl, inr, List, [], ◌∷◌, ◌++◌, get_or, length, map, refl, sym, ap, ◌∙◌, arith, length-append}
use Rattle.std.specs.Prelude.{All}
use Rattle.std.specs.List.Sorted.{IsNonDecreasingBy}
use Rattle.std.proofs.lemmas.Bool.{cases_lt}
use Rattle.std.proofs.lemmas.List.{get_or_append_left, get_or-append_right}
use Rattle.std.proofs.lemmas.List.Elements.{All-append, All-cons, All-map, All-nil, All-weaker}
use Rattle.pw_info.specs.declared.kind.Kind.{Kind}
use Rattle.pw_premises.specs.Premises.{Premises}
use Rattle.pw_decl.specs.Expansion.{Instance}
use Rattle.pw_network.specs.Network.{Attached, HaveSupportsByLine, InnerCell, IsAttachedBy, IsSupportedAs, attached_at, inner_cells_from}

-- the inner cells of an attachment have its line
pub lines_of_inner : (line number : ℕ) (kinds : List Kind) →
    All (λ (inner : InnerCell). inner.line ≡ line) (inner_cells_from line number kinds)
lines_of_inner line number [] = All-nil (λ (inner : InnerCell). inner.line ≡ line)
lines_of_inner line number (kind ∷ kinds) =
    All-cons (λ (inner : InnerCell). inner.line ≡ line) (record { line = line; number = number; kind = kind })
    (inner_cells_from line (number + 1) kinds) refl (lines_of_inner line (number + 1) kinds)

module _ {X : Type 0} (n : X → ℕ) (last line : ℕ) (xs ys : List X) (more : last ≤ line) (past : All (λ x. n x ≤ last) xs)
    (own : All (λ y. n y ≡ line) ys) where
  -- what is at most the last line, and what has a later one, is at most that
  pub past_more : All (λ x. n x ≤ line) (xs ++ ys)
  past_more =
      All-append (λ x. n x ≤ line) xs ys
      (All-weaker (λ x. n x ≤ last) (λ x. n x ≤ line) (λ x below. omega arith) xs past)
      (All-weaker (λ y. n y ≡ line) (λ y. n y ≤ line) (λ y same. omega arith) ys own)

  -- and if what was there does not fall, nothing falls
  pub order_more : IsNonDecreasingBy n xs → IsNonDecreasingBy n (xs ++ ys)
  order_more order i j d upto within =
      elim (cases_lt j (length xs)) [
        | inl old ↦
            let first = ap n (get_or_append_left xs ys d i (omega arith)) in
            let second = ap n (get_or_append_left xs ys d j old) in
            omega (arith, first, second, order i j d upto old)
        | inr new ↦
            let long = length-append xs ys in
            let here = ap n (get_or-append_right xs ys (length xs) j d refl new) in
            omega (arith, here, own (j - length xs) d (omega arith), past_more i d (omega arith))
      ]

-- an instance has this line and this support
abbrev pub IsOf : ℕ → Premises → Attached → Type 0
IsOf line support attached = (attached.line ≡ line) × (attached.support ≡ support)

-- the instances of an attachment have its line and its support
pub attached_of : (line : ℕ) (support : Premises) (instances : List (Instance ℕ)) → All (IsOf line support) (map (attached_at line support) instances)
attached_of line support instances = All-map (IsOf line support) (attached_at line support) instances (λ k d within. (refl, refl))

module _ (last line : ℕ) (support : Premises) (old new : List Attached) (next : last < line) (past : All (IsAttachedBy last) old)
    (own : All (IsOf line support) new) where
  -- the new ones have the last line
  pub attached_more : All (IsAttachedBy line) (old ++ new)
  attached_more =
      All-append (IsAttachedBy line) old new
      (All-weaker (IsAttachedBy last) (IsAttachedBy line) (λ a by. let reached = by.1 in (by.0, omega arith)) old past)
      (All-weaker (IsOf line support) (IsAttachedBy line) (λ a of. let same = of.0 in (omega arith, omega arith)) new own)

  -- an old instance and a new one have different lines
  apart : (a b : Attached) → IsAttachedBy last a → IsOf line support b → a.line ≢ b.line
  apart a b by of same = let reached = by.1 in let here = of.0 in omega arith

  -- the instances of each line still have one support
  pub supports_more : HaveSupportsByLine old → HaveSupportsByLine (old ++ new)
  supports_more supports =
      All-append (λ one. All (IsSupportedAs one) (old ++ new)) old new
      (λ i d within. All-append (IsSupportedAs (get_or old i d)) old new (supports i d within)
      (λ j e below same. absurd (apart (get_or old i d) (get_or new j e) (past i d within) (own j e below) same)))
      (λ i d within. All-append (IsSupportedAs (get_or new i d)) old new
      (λ j e below same. absurd (apart (get_or old j e) (get_or new i d) (past j e below) (own i d within) (sym same)))
      (λ j e below same. (own i d within).1 ∙ sym (own j e below).1))
