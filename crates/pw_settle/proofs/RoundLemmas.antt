-- What a source says, and what a round leaves possible: exactly what each source that informs the
-- cell leaves possible too.
use Rattle.std.proofs.Common.{◌≡◌, ℤ, List, [], ◌∷◌, ◌++◌, Bool, true, false, if◌then◌else◌, map, fold, All, Contains, Decides, refl, sym, ◌∙◌, ap, subst}
use Rattle.std.proofs.Math.Logic.{∥∥₁_elim}
use Rattle.std.proofs.lemmas.List.Elements.{All-cons, All-contains, All-head, All-nil, All-tail, All-weaker}
use Rattle.std.proofs.lemmas.Simd.{map-map}
use Rattle.std.specs.List.{AllZip}
use base.Stored.{Coded-set}
use Rattle.pw_kinds.proofs.Order.{both_true, true_both}
use Rattle.pw_info.specs.declared.kind.Kind.{Kind}
use Rattle.pw_info.specs.contracts.kind.Kind as kind
use Rattle.pw_info.specs.declared.info.Info.{Info}
use Rattle.pw_info.specs.Information.{kind_of, allows, meet, Implies}
use Rattle.pw_info.proofs.Informations.{allows-meet, kind-meet, Implies-antisym}
use Rattle.pw_procs.specs.Signature.{output_slot_of, Accepts}
use Rattle.pw_procs.proofs.KindLaws.{gives_accepted}
use Rattle.pw_procs.proofs.MeaningLaws.{value_mono}
use Rattle.pw_settle.specs.Sources.{Cells, Source, Told, Propagator, cell_of, said_by, AreOfTheirKinds, Fits, IsImplied}
use Rattle.pw_settle.specs.Fixpoint.{with_source, round}
use Rattle.pw_settle.proofs.Membership.{each_member}

-- ---- one merge

-- what a merge that is made where P holds leaves possible: what was, and, where P holds, what is
-- merged
merge_allows : (b : Bool) (P : Type 0) → Decides b P → (info said : Info) → (P → kind_of info ≡ kind_of said) → (v : ℤ) →
    allows (if b then meet info said else info) v ≡ true → (allows info v ≡ true) × (P → allows said v ≡ true)
merge_allows true P decides info said kinds v e =
    let both : (allows info v ≡ true) × (allows said v ≡ true) = true_both _ _ (sym (allows-meet info said (kinds (decides.0 refl)) v) ∙ e) in
    (both.0, λ p. both.1)
merge_allows false P decides info said kinds v e = (e, λ p. let wrong : false ≡ true = decides.1 p in absurd (cc))

-- and it leaves possible everything that both leave possible
allows_merge : (b : Bool) (P : Type 0) → Decides b P → (info said : Info) → (P → kind_of info ≡ kind_of said) → (v : ℤ) →
    allows info v ≡ true → (P → allows said v ≡ true) → allows (if b then meet info said else info) v ≡ true
allows_merge true P decides info said kinds v e more =
    allows-meet info said (kinds (decides.0 refl)) v ∙ both_true _ _ e (more (decides.0 refl))
allows_merge false P decides info said kinds v e more = e

-- a merge like this is of the kind of what was known before
kind-merge : (b : Bool) (info said : Info) → kind_of (if b then meet info said else info) ≡ kind_of info
kind-merge true info said = kind-meet info said
kind-merge false info said = refl

-- ---- what sources say

-- if what is known about each cell is more informed, so is what is known about some, one by one
map_implied : {C : Type 0} (better known : C → Info) → ((c : C) → Implies (better c) (known c)) → (cs : List C) →
    AllZip Implies (map better cs) (map known cs)
map_implied better known more [] = tt
map_implied better known more (c ∷ cs) = (more c, map_implied better known more cs)

module _ {C : Type 0} (cells : Cells C) where
  -- what is known about some cells is of their kinds
  kinds_known : (known : C → Info) → AreOfTheirKinds cells known → (cs : List C) → map kind_of (map known cs) ≡ map cells.kind cs
  kinds_known known kinds cs = map-map kind_of known cs ∙ (λ k. map (λ c. kinds c k) cs)

  -- what a source says is of the kind of its cell
  abbrev pub IsOfItsKind : (C → Info) → Source C → Type 0
  IsOfItsKind known source = kind_of (said_by known source) ≡ cells.kind (cell_of source)

  -- what a source that fits says is of the kind of its cell
  pub kind-said : (known : C → Info) → AreOfTheirKinds cells known → (source : Source C) → Fits cells source → IsOfItsKind known source
  kind-said known kinds (Told cell info) fits = fits
  kind-said known kinds (Propagator procedure inputs output) fits =
      ∥∥₁_elim fits (Coded-set kind.the_row.coded _ _) (λ accepts.
      (gives_accepted procedure (map known inputs) (cells.kind output)
      (subst (λ (ks : List Kind). Accepts procedure.signature (ks ++ cells.kind output ∷ [])) (sym (kinds_known known kinds inputs)) accepts)).1)

  -- and so is what all sources that fit say
  pub kinds-said : (known : C → Info) → AreOfTheirKinds cells known → (sources : List (Source C)) → All (Fits cells) sources →
      All (IsOfItsKind known) sources
  kinds-said known kinds sources fit = All-weaker (Fits cells) (IsOfItsKind known) (kind-said known kinds) sources fit

  -- if more is known about each cell, a source says at least as much
  pub said_mono : (better known : C → Info) → AreOfTheirKinds cells better → AreOfTheirKinds cells known →
      ((c : C) → Implies (better c) (known c)) → (source : Source C) → Implies (said_by better source) (said_by known source)
  said_mono better known better_kinds known_kinds more (Told cell info) = λ v e. e
  said_mono better known better_kinds known_kinds more (Propagator procedure inputs output) =
      value_mono (output_slot_of procedure.signature) (map better inputs) (map known inputs)
      (kinds_known better better_kinds inputs ∙ sym (kinds_known known known_kinds inputs)) (map_implied better known more inputs) procedure.meaning

  -- ---- what a round leaves possible

  -- an information of a cell merged with what sources say about the cell is of its kind
  kind-merged : (known : C → Info) (cell : C) (info : Info) (sources : List (Source C)) →
      kind_of (fold (with_source cells known cell) info sources) ≡ kind_of info
  kind-merged known cell info [] = refl
  kind-merged known cell info (source ∷ sources) =
      kind-merged known cell (with_source cells known cell info source) sources
      ∙ kind-merge (cells.same (cell_of source) cell) info (said_by known source)

  -- a round keeps the kinds
  pub kind-round : (sources : List (Source C)) (known : C → Info) (c : C) → kind_of (round cells sources known c) ≡ kind_of (known c)
  kind-round sources known c = kind-merged known c (known c) sources

  -- an information of the kind of a cell is of the kind of what a source says that informs this
  -- cell
  merged_kind : (known : C → Info) (cell : C) (info : Info) (source : Source C) → kind_of info ≡ cells.kind cell → IsOfItsKind known source →
      cell_of source ≡ cell → kind_of info ≡ kind_of (said_by known source)
  merged_kind known cell info source kind says is = kind ∙ sym (says ∙ ap cells.kind is)

  -- what the source says leaves the value possible, if it informs the cell
  abbrev pub Leaves : (C → Info) → C → ℤ → Source C → Type 0
  Leaves known cell v source = cell_of source ≡ cell → allows (said_by known source) v ≡ true

  -- an information merged with what sources say about a cell leaves possible only what it did and
  -- what each of them does
  merged_allows : (known : C → Info) (cell : C) (sources : List (Source C)) (info : Info) → kind_of info ≡ cells.kind cell →
      All (IsOfItsKind known) sources → (v : ℤ) → allows (fold (with_source cells known cell) info sources) v ≡ true →
      (allows info v ≡ true) × All (Leaves known cell v) sources
  merged_allows known cell [] info kind says v e = (e, All-nil (Leaves known cell v))
  merged_allows known cell (source ∷ sources) info kind says v e =
      let rest = merged_allows known cell sources (with_source cells known cell info source)
      (kind-merge (cells.same (cell_of source) cell) info (said_by known source) ∙ kind) (All-tail (IsOfItsKind known) source sources says) v e in
      let first = merge_allows (cells.same (cell_of source) cell) (cell_of source ≡ cell) (cells.decides (cell_of source) cell) info (said_by known source)
      (merged_kind known cell info source kind (All-head (IsOfItsKind known) source sources says)) v rest.0 in
      (first.0, All-cons (Leaves known cell v) source sources first.1 rest.1)

  -- and it leaves possible everything that was possible before and that each of them leaves
  -- possible
  allows_merged : (known : C → Info) (cell : C) (sources : List (Source C)) (info : Info) → kind_of info ≡ cells.kind cell →
      All (IsOfItsKind known) sources → (v : ℤ) → allows info v ≡ true → All (Leaves known cell v) sources →
      allows (fold (with_source cells known cell) info sources) v ≡ true
  allows_merged known cell [] info kind says v e leave = e
  allows_merged known cell (source ∷ sources) info kind says v e leave =
      allows_merged known cell sources (with_source cells known cell info source)
      (kind-merge (cells.same (cell_of source) cell) info (said_by known source) ∙ kind) (All-tail (IsOfItsKind known) source sources says) v
      (allows_merge (cells.same (cell_of source) cell) (cell_of source ≡ cell) (cells.decides (cell_of source) cell) info (said_by known source)
      (merged_kind known cell info source kind (All-head (IsOfItsKind known) source sources says)) v e
      (All-head (Leaves known cell v) source sources leave))
      (All-tail (Leaves known cell v) source sources leave)

  module _ (sources : List (Source C)) (fit : All (Fits cells) sources) (known : C → Info) (kinds : AreOfTheirKinds cells known) where
    -- what is possible of a cell after a round was possible before it, and is possible by what each
    -- source says that informs the cell
    pub round_allows : (c : C) (v : ℤ) → allows (round cells sources known c) v ≡ true →
        (allows (known c) v ≡ true) × All (Leaves known c v) sources
    round_allows c v e = merged_allows known c sources (known c) (kinds c) (kinds-said known kinds sources fit) v e

    -- and what is both is possible after it
    pub allows_round : (c : C) (v : ℤ) → allows (known c) v ≡ true → All (Leaves known c v) sources →
        allows (round cells sources known c) v ≡ true
    allows_round c v e leave = allows_merged known c sources (known c) (kinds c) (kinds-said known kinds sources fit) v e leave

    -- after a round at least as much is known about each cell
    pub round_gains : (c : C) → Implies (round cells sources known c) (known c)
    round_gains c v e = (round_allows c v e).0

    -- and at least what a source says that informs it
    pub round_says : (source : Source C) → Contains sources source → Implies (round cells sources known (cell_of source)) (said_by known source)
    round_says source is v e =
        All-contains (Leaves known (cell_of source) v) sources source (round_allows (cell_of source) v e).1 is refl

    -- if a cell is left unchanged, what is known about it says what the sources that inform it say
    pub left_implied : (source : Source C) → Contains sources source →
        round cells sources known (cell_of source) ≡ known (cell_of source) → IsImplied known source
    left_implied source is left =
        subst (λ (i : Info). Implies i (said_by known source)) left (round_says source is)

    -- what a round leaves unchanged implies the sources
    pub stays_implied : ((c : C) → round cells sources known c ≡ known c) → All (IsImplied known) sources
    stays_implied stays = each_member (IsImplied known) sources (λ source is. left_implied source is (stays (cell_of source)))

    -- if the sources are implied, a round leaves everything unchanged
    pub round_stays : All (IsImplied known) sources → (c : C) → round cells sources known c ≡ known c
    round_stays implied c =
        Implies-antisym (round cells sources known c) (known c) (kind-round sources known c) (round_gains c)
        (λ v e. allows_round c v e (All-weaker (IsImplied known) (Leaves known c v)
        (λ source implies is. implies v (subst (λ (d : C). allows (known d) v ≡ true) (sym is) e)) sources implied))

    -- anything that implies the sources, and what is known, implies what is known after a round
    pub round_below : (last : C → Info) → AreOfTheirKinds cells last → All (IsImplied last) sources →
        ((c : C) → Implies (last c) (known c)) → (c : C) → Implies (last c) (round cells sources known c)
    round_below last last_kinds implied more c v e =
        allows_round c v (more c v e) (All-weaker (IsImplied last) (Leaves known c v)
        (λ source implies is. said_mono last known last_kinds kinds more source v
        (implies v (subst (λ (d : C). allows (last d) v ≡ true) (sym is) e))) sources implied)
