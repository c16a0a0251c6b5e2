-- What a gathering output was passed from one moment to the next.
use Rattle.std.proofs.Common.{◌≡◌, ℕ, List, [], ◌++◌, length, take, drop, sym, ap, ◌∙◌, subst, append-nil, arith, length-append}
use Rattle.std.proofs.lemmas.List.{take-append-drop}
use Rattle.std.proofs.Math.Seq.{take-append_seam}
use Rattle.std.specs.Borrow.{GName}
use Rattle.pw_info.specs.Passing.{PassesPart}
use Rattle.pw_info.proofs.PassingFacts.{PassesPart-append}
use Rattle.pw_transcript.specs.declared.gathered.Gathered.{Gathered}
use Rattle.pw_transcript.specs.inside.Gathering.{Gathers}
use Rattle.pw_transcript.specs.inside.Gathering.{output_of, held_of, GatheredPasses}

module _ {S : Type 0} (passes : S → List ℕ → S → Type 0) where
  -- the first of the held bytes are passed on
  pub Gathers-front : (s t : S) (held held' bytes : List ℕ) (n : ℕ) → bytes ≡ held → held' ≡ drop n held → passes s (take n bytes) t → Gathers passes s t held held' []
  Gathers-front s t held held' bytes n same rest p =
      record {
        on = take n bytes;
        whole = append-nil held ∙ sym (take-append-drop n held) ∙ ap (λ l. take n l ++ drop n held) (sym same) ∙ ap (λ l. take n bytes ++ l) (sym rest);
        passed = p;
      }

  -- none of the held bytes is passed on
  pub Gathers-kept : (s t : S) (held : List ℕ) → passes s [] t → Gathers passes s t held held []
  Gathers-kept s t held p = record { on = []; whole = append-nil held; passed = p }

  -- if nothing was held and nothing is, the bytes were passed on
  pub Gathers-whole : (s t : S) (xs : List ℕ) → Gathers passes s t [] [] xs → passes s xs t
  Gathers-whole s t xs p = subst (λ l. passes s l t) (sym (p.whole ∙ append-nil p.on)) p.passed

  -- if nothing was held, a front of the bytes was passed on
  pub Gathers-part : (s t : S) (held xs : List ℕ) → Gathers passes s t [] held xs → PassesPart passes s t xs
  Gathers-part s t held xs p =
      record {
        count = length p.on;
        within = omega (arith, ap length p.whole, length-append p.on held);
        part = subst (λ l. passes s l t) (sym (ap (take (length p.on)) p.whole ∙ take-append_seam p.on held)) p.passed;
      }

module _ {O : Type 0} (passes : O → List ℕ → O → Type 0) where
  -- if nothing was held at first and nothing is at last, what was passed to a gathering output was
  -- passed to its output, which is `last` after the borrow is over
  pub gathered_whole : (name : GName) (first last : O) (s t : Gathered O) (text : List ℕ)
      → (output_of s).ghost_name ≡ name → (output_of s).now ≡ first → held_of s ≡ [] → held_of t ≡ []
      → GatheredPasses passes s text t → (name ≡ (output_of t).ghost_name → last ≡ (output_of t).now) → passes first text last
  gathered_whole name first last s t text named at none left p ends =
      let e : last ≡ (output_of t).now = ends (sym named ∙ sym p.0) in
      let q : Gathers passes first (output_of t).now [] [] text =
      subst (λ o. Gathers passes o (output_of t).now [] [] text) at (subst (λ l. Gathers passes (output_of s).now (output_of t).now l [] text) none
      (subst (λ l. Gathers passes (output_of s).now (output_of t).now (held_of s) l text) left p.1)) in
      subst (λ o. passes first text o) (sym e) (Gathers-whole passes first (output_of t).now text q)

  -- if nothing was held at first, of a front that was passed to a gathering output a front was
  -- passed to its output
  pub gathered_part : (name : GName) (first last : O) (s t : Gathered O) (text : List ℕ)
      → (output_of s).ghost_name ≡ name → (output_of s).now ≡ first → held_of s ≡ []
      → PassesPart (GatheredPasses passes) s t text → (name ≡ (output_of t).ghost_name → last ≡ (output_of t).now) → PassesPart passes first last text
  gathered_part name first last s t text named at none p ends =
      let e : last ≡ (output_of t).now = ends (sym named ∙ sym p.part.0) in
      let q : Gathers passes first (output_of t).now [] (held_of t) (take p.count text) =
      subst (λ o. Gathers passes o (output_of t).now [] (held_of t) (take p.count text)) at
      (subst (λ l. Gathers passes (output_of s).now (output_of t).now l (held_of t) (take p.count text)) none p.part.1) in
      subst (λ o. PassesPart passes first o text) (sym e)
      (subst (PassesPart passes first (output_of t).now) (take-append-drop p.count text)
      (PassesPart-append passes first (output_of t).now (take p.count text) (drop p.count text) (Gathers-part passes first (output_of t).now (held_of t) (take p.count text) q)))
