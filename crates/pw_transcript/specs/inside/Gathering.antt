-- What a gathering output was passed, against what it passed on and what it holds, and how far the
-- names of premises are written.
use Rattle.std.specs.Prelude.{◌≡◌, ℕ, List, [], ◌++◌, refl, Bool, true, false, ◌∷◌, filter, map}
use Rattle.std.proofs.Common.{sym, ap, ◌∙◌, append_assoc, append-nil}
use Rattle.std.specs.Borrow.{MutBor}
use Rattle.pw_transcript.specs.declared.gathered.Gathered.{Gathered}
use Rattle.std.specs.FinSet.{contains}
use Rattle.std.specs.List.{range_with_len}
use Rattle.pw_info.specs.SetNames.{name_at}
use Rattle.pw_premises.specs.Premises.{Premises}
use Rattle.pw_decl.specs.Declaration.{Declared}

-- what was held before, followed by these bytes, is what was passed on in between, followed by what
-- is held now
pub record Gathers {S : Type 0} (passes : S → List ℕ → S → Type 0) (old new : S)
    (held held' bytes : List ℕ) : Type 0 where
  pub on : List ℕ
  pub whole : held ++ bytes ≡ on ++ held'
  pub passed : passes old on new

module _ {S : Type 0} (passes : S → List ℕ → S → Type 0) where
  -- nothing is passed at one moment
  pub Gathers-none : ((s : S) → passes s [] s) → (s : S) (held : List ℕ) →
      Gathers passes s s held held []
  Gathers-none none s held = record { on = []; whole = append-nil held; passed = none s }

  -- what is passed first and what is passed next are passed together
  pub Gathers-joins : ((s t u : S) (xs ys : List ℕ) → passes s xs t → passes t ys u →
      passes s (xs ++ ys) u)
      → (s t u : S) (a b c xs ys : List ℕ)
      → Gathers passes s t a b xs → Gathers passes t u b c ys → Gathers passes s u a c (xs ++ ys)
  Gathers-joins joins s t u a b c xs ys p q =
      record {
        on = p.on ++ q.on;
        whole = sym (append_assoc a xs ys) ∙ ap (λ l. l ++ ys) p.whole ∙ append_assoc p.on b ys
            ∙ ap (λ l. p.on ++ l) q.whole ∙ sym (append_assoc p.on q.on c);
        passed = joins s t u p.on q.on p.passed q.passed;
      }

-- the output that it passes its bytes on to
abbrev pub output_of : {O : Type 0} → Gathered O → MutBor O
output_of g = g.output

-- the bytes that it holds, which are not passed on yet
abbrev pub held_of : {O : Type 0} → Gathered O → List ℕ
held_of g = g.held

-- it still passes to the same output, and what it held before, followed by these bytes, is what it
-- passed on to that output in between, followed by what it holds now
abbrev pub GatheredPasses : {O : Type 0} → (O → List ℕ → O → Type 0) → Gathered O → List ℕ →
    Gathered O → Type 0
GatheredPasses passes s bytes t =
    ((output_of t).ghost_name ≡ (output_of s).ghost_name)
    × Gathers passes (output_of s).now (output_of t).now (held_of s) (held_of t) bytes

-- nothing is passed to it at one moment
pub GatheredPasses-none : {O : Type 0} (passes : O → List ℕ → O → Type 0) →
    ((o : O) → passes o [] o)
    → (s : Gathered O) → GatheredPasses passes s [] s
GatheredPasses-none passes none s = (refl, Gathers-none passes none (output_of s).now (held_of s))

-- what is passed to it first and what is passed to it next are passed to it together
pub GatheredPasses-joins : {O : Type 0} (passes : O → List ℕ → O → Type 0)
    → ((o p q : O) (xs ys : List ℕ) → passes o xs p → passes p ys q → passes o (xs ++ ys) q)
    → (s t u : Gathered O) (xs ys : List ℕ)
    → GatheredPasses passes s xs t → GatheredPasses passes t ys u →
    GatheredPasses passes s (xs ++ ys) u
GatheredPasses-joins passes joins s t u xs ys p q = (
  q.0 ∙ p.0,
  Gathers-joins passes joins (output_of s).now (output_of t).now (output_of u).now
      (held_of s) (held_of t) (held_of u) xs ys p.1 q.1,
)

-- the names of the declared premises among these that have numbers below this one, in declared
-- order
abbrev pub names_below : Declared → Premises → ℕ → List (List ℕ)
names_below d premises number = map (name_at d.premises)
    (filter (contains premises) (range_with_len 0 number))

-- whether there is a name
abbrev pub has_some : List (List ℕ) → Bool
has_some [] = false
has_some (name ∷ names) = true
