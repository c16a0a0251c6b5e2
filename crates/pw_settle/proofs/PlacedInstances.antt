-- Instances whose cells are there, of kinds that their procedures accept: what they say, and what
-- merging it makes of what is known.
use Rattle.std.proofs.Common.{◌≡◌, ℕ, ◌+◌, ◌<◌, ◌≤◌, List, [], ◌∷◌, ◌++◌, Option, Some, length, map, get_or, set, refl, sym, ap, ◌∙◌, subst, arith, inl, inr}
use Rattle.std.specs.Prelude.{All, slice_get, take}
use Rattle.std.specs.List.{cons_option}
use Rattle.std.specs.Option.{option_map}
use Rattle.std.proofs.Math.ListN.{get_or-map}
use Rattle.std.proofs.Math.Logic.{∥∥₁_elim}
use Rattle.std.proofs.lemmas.List.{length-map, map_push, take_all, take_more, take_more_set, get_or_default}
use Rattle.std.proofs.lemmas.List.Elements.{All-nil, All-cons, All-head}
use Rattle.pw_info.specs.declared.kind.Kind.{Kind}
use Rattle.pw_info.specs.declared.kind.Kind.TheVariants as kinds
use Rattle.pw_info.specs.declared.info.Info.{Info}
use Rattle.pw_info.specs.Information.{kind_of, nothing}
use Rattle.pw_procs.specs.Procedure.{Procedure, value_by}
use Rattle.pw_procs.specs.Signature.{Accepts, FitSignature, input_slots_of}
use Rattle.pw_procs.specs.Slots.{kind_in_slot}
use Rattle.pw_procs.proofs.KindLaws.{apart, gives_accepted}
use Rattle.std.proofs.lemmas.Option.{same_Some}
use Rattle.pw_decl.specs.declared.step.Callable.TheVariants as callables
use Rattle.pw_decl.specs.Expansion.{Instance, FitsCells}
use Rattle.pw_decl.proofs.Decided.{decided_accepts_kinds}
use Rattle.pw_settle.specs.Sources.{Source, Propagator, Fits, said_by}
use Rattle.pw_settle.specs.Settled.{info_at}
use Rattle.pw_settle.specs.Values.{numbered, propagators_of}
use Rattle.pw_settle.specs.inside.Known.{IsPlaced}

-- what is known about a cell by its number is of the cell's kind
pub kind-info_at : (infos : List Info) (cell : ℕ) → kind_of (info_at infos cell) ≡ (numbered (map kind_of infos)).kind cell
kind-info_at infos cell = sym (get_or-map kind_of infos cell (nothing kinds.Interval))

module _ (procedures : List Procedure) (ks : List Kind) (instance : Instance ℕ) (placed : IsPlaced procedures ks instance) where
  -- its procedure is there, and accepts the kinds of its cells
  pub accepted : FitsCells procedures (numbered ks).kind instance
  accepted =
      elim (decided_accepts_kinds procedures [] (callables.Stored instance.procedure)
      (map (numbered ks).kind instance.inputs ++ (numbered ks).kind instance.output ∷ [])) [
        | inl fits ↦ fits
        | inr not ↦ absurd (∥∥₁_elim placed.1 (λ a b. absurd a) not)
      ]

  -- so it is one source
  pub one_source : propagators_of procedures (instance ∷ []) ≡ Propagator accepted.0 instance.inputs instance.output ∷ []
  one_source =
      ap (λ (o : Option Procedure). cons_option (option_map (λ (p : Procedure). Propagator p instance.inputs instance.output) o) []) accepted.1

  -- what that source has, each of its sources has
  pub all_sources : (P : Source ℕ → Type 0) → P (Propagator accepted.0 instance.inputs instance.output) → All P (propagators_of procedures (instance ∷ []))
  all_sources P it = subst (All P) (sym one_source) (All-cons P (Propagator accepted.0 instance.inputs instance.output) [] it (All-nil P))

  -- and what each of its sources has, that source has
  pub the_source : (P : Source ℕ → Type 0) → All P (propagators_of procedures (instance ∷ [])) → P (Propagator accepted.0 instance.inputs instance.output)
  the_source P all = All-head P (Propagator accepted.0 instance.inputs instance.output) [] (subst (All P) one_source all)

  -- it has no more inputs than a procedure may have
  pub few_inputs : length instance.inputs ≤ 8
  few_inputs =
      let parts = apart accepted.0.signature (map (numbered ks).kind instance.inputs) ((numbered ks).kind instance.output) accepted.2 in
      let kinds_many = length-map instance.inputs (numbered ks).kind in
      let slots_many = length-map (input_slots_of accepted.0.signature) (kind_in_slot parts.0) in
      let as_many = ap length parts.1 in
      omega (arith, kinds_many, slots_many, as_many, accepted.0.signature.shape.inputs.most)

  -- its sources fit the kinds of their cells
  pub sources_fit : All (Fits (numbered ks)) (propagators_of procedures (instance ∷ []))
  sources_fit = all_sources (Fits (numbered ks)) ∣ accepted.2 ∣₁

-- ---- what an instance's procedure makes of its inputs

-- what is known about cells is of their kinds
kinds_known : (known : List Info) (cells : List ℕ) → map kind_of (map (info_at known) cells) ≡ map (numbered (map kind_of known)).kind cells
kinds_known known [] = refl
kinds_known known (cell ∷ cells) = λ i. kind-info_at known cell i ∷ kinds_known known cells i

-- as many as the slots of a procedure that accepts their kinds
module _ (procedures : List Procedure) (known : List Info) (instance : Instance ℕ) (placed : IsPlaced procedures (map kind_of known) instance)
    (procedure : Procedure) (found : slice_get procedures instance.procedure ≡ Some procedure) where
  abbrev given : List Info
  given = map (info_at known) instance.inputs

  abbrev out_kind : Kind
  out_kind = (numbered (map kind_of known)).kind instance.output

  same_procedure : (accepted procedures (map kind_of known) instance placed).0 ≡ procedure
  same_procedure =
      same_Some (accepted procedures (map kind_of known) instance placed).0 procedure (sym (accepted procedures (map kind_of known) instance placed).1 ∙ found)

  -- the inputs fit the procedure, and its value is of the kind of the output
  pub fits_given : FitSignature procedure.signature given × (kind_of (value_by procedure given) ≡ out_kind)
  fits_given =
      gives_accepted procedure given out_kind
      (subst (λ (p : Procedure). Accepts p.signature (map kind_of given ++ out_kind ∷ [])) same_procedure
      (subst (λ (ks : List Kind). Accepts (accepted procedures (map kind_of known) instance placed).0.signature (ks ++ out_kind ∷ [])) (sym (kinds_known known instance.inputs))
      (accepted procedures (map kind_of known) instance placed).2))

  -- and that value is what its source says
  pub given_is_said : (answer : Info) → answer ≡ value_by procedure given → All (λ source. said_by (info_at known) source ≡ answer) (propagators_of procedures (instance ∷ []))
  given_is_said answer is =
      all_sources procedures (map kind_of known) instance placed (λ source. said_by (info_at known) source ≡ answer)
      (ap (λ (p : Procedure). value_by p given) same_procedure ∙ sym is)

-- one more input is filled in
pub filled_more : (known inputs : List Info) (cells : List ℕ) (place : ℕ) (info : Info) → place < length cells → length cells ≤ length inputs →
    get_or cells place 0 < length known → info ≡ get_or known (get_or cells place 0) info → take place inputs ≡ map (info_at known) (take place cells) →
    take (place + 1) (set inputs place info) ≡ map (info_at known) (take (place + 1) cells)
filled_more known inputs cells place info below room there is done =
    take_more_set inputs place info (omega (arith, below, room))
    ∙ (λ i. done i ++ (is ∙ get_or_default known (get_or cells place 0) info (nothing kinds.Interval) there) i ∷ [])
    ∙ sym (ap (map (info_at known)) (take_more cells place 0 below) ∙ map_push (info_at known) (take place cells) (get_or cells place 0))

-- what was filled in up to the last place is all of it
pub all_filled : (known inputs : List Info) (cells : List ℕ) (place : ℕ) → take place inputs ≡ map (info_at known) (take place cells) → length cells ≤ place →
    place ≤ length cells → take (length cells) inputs ≡ map (info_at known) cells
all_filled known inputs cells place done past within =
    let same : length cells ≡ place = omega arith in
    ap (λ (n : ℕ). take n inputs) same ∙ done ∙ ap (map (info_at known)) (take_all place cells past)

-- what is known about only one cell, or about only two
pub one_given : (known : List Info) (cells : List ℕ) (x : Info) → 1 ≤ length cells → length cells < 2 → get_or cells 0 0 < length known
    → x ≡ get_or known (get_or cells 0 0) x → x ∷ [] ≡ map (info_at known) cells
one_given known [] x some few there read = absurd (omega (arith, some))
one_given known (a ∷ []) x some few there read = λ i. (read ∙ get_or_default known a x (nothing kinds.Interval) there) i ∷ []
one_given known (a ∷ b ∷ cells) x some few there read = absurd (omega (arith, few))

pub two_given : (known : List Info) (cells : List ℕ) (x y : Info) → 2 ≤ length cells → length cells < 3 → get_or cells 0 0 < length known → get_or cells 1 0 < length known
    → x ≡ get_or known (get_or cells 0 0) x → y ≡ get_or known (get_or cells 1 0) y → x ∷ y ∷ [] ≡ map (info_at known) cells
two_given known [] x y some few there_x there_y read_x read_y = absurd (omega (arith, some))
two_given known (a ∷ []) x y some few there_x there_y read_x read_y = absurd (omega (arith, some))
two_given known (a ∷ b ∷ []) x y some few there_x there_y read_x read_y =
    λ i. (read_x ∙ get_or_default known a x (nothing kinds.Interval) there_x) i ∷ (read_y ∙ get_or_default known b y (nothing kinds.Interval) there_y) i ∷ []
two_given known (a ∷ b ∷ d ∷ cells) x y some few there_x there_y read_x read_y = absurd (omega (arith, few))
