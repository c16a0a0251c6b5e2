-- Texts passed one after another: what of both was passed, and written, when the first or the
-- second broke off.
use Rattle.std.proofs.Common.{◌≡◌, ℕ, ◌+◌, ◌-◌, Bool, true, List, [], ◌∷◌, ◌++◌, ◌==◌, length, take, drop, Result, Ok, Err, IsErr, sym, ap, ◌∙◌, subst, arith, length-append, length-drop, append_assoc, take_all}
use Rattle.std.proofs.lemmas.Bool.{eqb-true}
use Rattle.std.proofs.lemmas.List.{append-nil, take-append-le, take-append-drop}
use Rattle.std.proofs.Math.Seq.{take-append-add, take-length}
use Rattle.pw_info.specs.Passing.{PassesPart, IsPassed, IsBrokenOff, Writes}

-- the first n and the rest, as code slices it
pub take-rest : (xs : List ℕ) (n : ℕ) → take n xs ++ take (length xs - n) (drop n xs) ≡ xs
take-rest xs n = ap (λ l. take n xs ++ l) (take_all (length xs - n) (drop n xs) (omega (arith, length-drop n xs))) ∙ take-append-drop n xs

-- what comes before xs, followed by the first n of xs, followed by the rest
pub taken_rest : (all before xs : List ℕ) (n : ℕ) → all ≡ before ++ xs → all ≡ (before ++ take n xs) ++ take (length xs - n) (drop n xs)
taken_rest all before xs n e =
    e ∙ ap (λ l. before ++ l) (sym (take-rest xs n)) ∙ sym (append_assoc before (take n xs) (take (length xs - n) (drop n xs)))

-- everything comes before an empty rest
pub taken_all : (all before rest : List ℕ) → all ≡ before ++ rest → (length rest == 0) ≡ true → before ≡ all
taken_all all before [] e none = sym (append-nil before) ∙ sym e
taken_all all before (x ∷ rest) e none = absurd (let empty = eqb-true (length (x ∷ rest)) 0 none in omega arith)

module _ {S : Type 0} (passes : S → List ℕ → S → Type 0) where
  -- nothing is a front of any text
  pub PassesPart-none : (s t : S) (text : List ℕ) → passes s [] t → PassesPart passes s t text
  PassesPart-none s t text p = record { count = 0; within = omega arith; part = p }

  -- the whole of a text is a front of it
  pub PassesPart-all : (s t : S) (text : List ℕ) → passes s text t → PassesPart passes s t text
  PassesPart-all s t text p = record { count = length text; within = omega arith; part = subst (λ l. passes s l t) (sym (take-length text)) p }

  -- a front of a text is a front of a longer one
  pub PassesPart-append : (s t : S) (xs ys : List ℕ) → PassesPart passes s t xs → PassesPart passes s t (xs ++ ys)
  PassesPart-append s t xs ys p =
      record {
        count = p.count;
        within = omega (arith, length-append xs ys, p.within);
        part = subst (λ l. passes s l t) (sym (take-append-le p.count xs ys p.within)) p.part;
      }

  module _ (joins : (s t u : S) (xs ys : List ℕ) → passes s xs t → passes t ys u → passes s (xs ++ ys) u) where
    -- after a text, a front of the next one is a front of both
    pub PassesPart-after : (s t u : S) (xs ys : List ℕ) → passes s xs t → PassesPart passes t u ys → PassesPart passes s u (xs ++ ys)
    PassesPart-after s t u xs ys p q =
        record {
          count = length xs + q.count;
          within = omega (arith, length-append xs ys, q.within);
          part = subst (λ l. passes s l u) (sym (take-append-add xs ys q.count)) (joins s t u xs (take q.count ys) p q.part);
        }

-- ---- writing one text after another

module _ {S : Type 0} (passes : S → List ℕ → S → Type 0) (has_failed : S → Bool) where
  -- what writes a text writes an equal one
  pub writes_same : {T E : Type 0} (s t : S) (result : Result T E) (xs ys : List ℕ) → xs ≡ ys
      → Writes passes has_failed s t result ys → Writes passes has_failed s t result xs
  writes_same s t result xs ys same writes = subst (Writes passes has_failed s t result) (sym same) writes

  -- if the first of two texts is broken off, a call that answers the failure writes both
  pub first_fails : {T E : Type 0} (s t : S) (result : Result T E) (text xs ys : List ℕ) → IsErr result
      → IsBrokenOff passes has_failed s t xs → text ≡ xs ++ ys → Writes passes has_failed s t result text
  first_fails s t (Ok x) text xs ys fails broken is = absurd (cc)
  first_fails s t (Err e) text xs ys fails broken is = subst (IsBrokenOff passes has_failed s t) (sym is)
      (record { front = PassesPart-append passes s t xs ys broken.front; failed = broken.failed })

  module _ (joins : (s t u : S) (xs ys : List ℕ) → passes s xs t → passes t ys u → passes s (xs ++ ys) u) where
    -- two texts, one written after the other, are written
    pub written_then : (s t u : S) (xs ys : List ℕ) → IsPassed passes has_failed s t xs → IsPassed passes has_failed t u ys
        → IsPassed passes has_failed s u (xs ++ ys)
    written_then s t u xs ys first second =
        record { passed = joins s t u xs ys first.passed second.passed; works = λ e. second.works (first.works e) }

    -- if the first of two texts is written and the second broken off, both are broken off
    pub broken_off_then : (s t u : S) (xs ys : List ℕ) → IsPassed passes has_failed s t xs → IsBrokenOff passes has_failed t u ys
        → IsBrokenOff passes has_failed s u (xs ++ ys)
    broken_off_then s t u xs ys first second =
        record { front = PassesPart-after passes joins s t u xs ys first.passed second.front; failed = second.failed }

    both_written : {T E : Type 0} (s t u : S) (result : Result T E) (xs ys : List ℕ) → IsPassed passes has_failed s t xs
        → Writes passes has_failed t u result ys → Writes passes has_failed s u result (xs ++ ys)
    both_written s t u (Ok x) xs ys first second = written_then s t u xs ys first second
    both_written s t u (Err e) xs ys first second = broken_off_then s t u xs ys first second

    -- after a text is written, a call that writes the next one writes both
    pub second_writes : {T E : Type 0} (s t u : S) (result : Result T E) (text xs ys : List ℕ) → IsPassed passes has_failed s t xs
        → Writes passes has_failed t u result ys → text ≡ xs ++ ys → Writes passes has_failed s u result text
    second_writes s t u result text xs ys first second is = writes_same s u result text (xs ++ ys) is (both_written s t u result xs ys first second)
