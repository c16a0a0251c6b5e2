-- Other names of cells: rounds, and so the fixpoint, know the same for a cell under either name.
use Rattle.std.proofs.Common.{◌≡◌, ℕ, zero, suc, ◌*◌, List, [], ◌∷◌, if◌then◌else◌, map, length, fold, All, refl, ◌∙◌, ap}
use Rattle.std.proofs.lemmas.Bool.Decides.{same_from_decides}
use Rattle.std.proofs.lemmas.List.{length-map}
use Rattle.std.proofs.lemmas.List.Elements.{All-head, All-tail}
use Rattle.std.specs.Fn.{iterate}
use Rattle.pw_info.specs.declared.info.Info.{Info}
use Rattle.pw_info.specs.Information.{meet, nothing}
use Rattle.pw_procs.specs.Procedure.{value_by}
use Rattle.pw_settle.specs.Sources.{Cells, Source, Told, Propagator, cell_of, said_by, source_renamed, Names}
use Rattle.pw_settle.specs.Fixpoint.{AreNamesOf, fixpoint, unknown_at, round, rounds_of_a_cell, with_source}

-- a source under other names informs its cell, by its other name
cell_renamed : {C D : Type 0} (name : C → D) (source : Source C) → cell_of (source_renamed name source) ≡ name (cell_of source)
cell_renamed name (Told cell info) = refl
cell_renamed name (Propagator procedure inputs output) = refl

-- if each cell that a source names is here, so is the one that it informs
cell_here : {C : Type 0} (IsHere : C → Type 0) (source : Source C) → Names IsHere source → IsHere (cell_of source)
cell_here IsHere (Told cell info) here = here
cell_here IsHere (Propagator procedure inputs output) here = here.1

module _ {C D : Type 0} (cells : Cells C) (others : Cells D) (IsHere : C → Type 0) (name : C → D) (are : AreNamesOf cells others IsHere name) where
  -- two cells that are here are one exactly if their other names are
  same_named : (c d : C) → IsHere c → IsHere d → others.same (name c) (name d) ≡ cells.same c d
  same_named c d first second =
      same_from_decides {P = c ≡ d} (others.same (name c) (name d)) (cells.same c d)
      (λ e. are.apart c d first second ((others.decides (name c) (name d)).0 e), λ e. (others.decides (name c) (name d)).1 (ap name e))
      (cells.decides c d)

  -- the same is known about each cell that is here under either name
  abbrev pub Agree : (C → Info) → (D → Info) → Type 0
  Agree known other = (c : C) → IsHere c → other (name c) ≡ known c

  module _ (known : C → Info) (other : D → Info) (agree : Agree known other) where
    -- what is known about some cells that are here is known about them under their other names
    map_agrees : (cs : List C) → All IsHere cs → map other (map name cs) ≡ map known cs
    map_agrees [] here = refl
    map_agrees (c ∷ cs) here = λ k. agree c (All-head IsHere c cs here) k ∷ map_agrees cs (All-tail IsHere c cs here) k

    -- a source says the same about its cell under either name
    said_renamed : (source : Source C) → Names IsHere source → said_by other (source_renamed name source) ≡ said_by known source
    said_renamed (Told cell info) here = refl
    said_renamed (Propagator procedure inputs output) here = ap (value_by procedure) (map_agrees inputs here.0)

    -- and so do sources, merged with what was known about the cell
    merged_renamed : (c : C) → IsHere c → (sources : List (Source C)) → All (Names IsHere) sources → (info : Info) →
        fold (with_source others other (name c)) info (map (source_renamed name) sources) ≡ fold (with_source cells known c) info sources
    merged_renamed c here [] named info = refl
    merged_renamed c here (source ∷ sources) named info =
        let first : Names IsHere source = All-head (Names IsHere) source sources named in
        let same : others.same (cell_of (source_renamed name source)) (name c) ≡ cells.same (cell_of source) c =
        ap (λ (d : D). others.same d (name c)) (cell_renamed name source) ∙ same_named (cell_of source) c (cell_here IsHere source first) here in
        let said : said_by other (source_renamed name source) ≡ said_by known source = said_renamed source first in
        let one : with_source others other (name c) info (source_renamed name source) ≡ with_source cells known c info source =
        λ k. if same k then meet info (said k) else info in
        ap (λ (i : Info). fold (with_source others other (name c)) i (map (source_renamed name) sources)) one
        ∙ merged_renamed c here sources (All-tail (Names IsHere) source sources named) (with_source cells known c info source)

    -- after a round the same is known under either names
    pub round_renamed : (sources : List (Source C)) → All (Names IsHere) sources →
        Agree (round cells sources known) (round others (map (source_renamed name) sources) other)
    round_renamed sources named c here =
        ap (λ (i : Info). fold (with_source others other (name c)) i (map (source_renamed name) sources)) (agree c here)
        ∙ merged_renamed c here sources named (known c)

  module _ (sources : List (Source C)) (named : All (Names IsHere) sources) where
    -- after rounds the same is known under either names
    rounds_renamed : (n : ℕ) (known : C → Info) (other : D → Info) → Agree known other →
        Agree (iterate (round cells sources) n known) (iterate (round others (map (source_renamed name) sources)) n other)
    rounds_renamed zero known other agree = agree
    rounds_renamed (suc n) known other agree =
        rounds_renamed n (round cells sources known) (round others (map (source_renamed name) sources) other)
        (round_renamed known other agree sources named)

    -- the fixpoint knows the same under either names
    pub fixpoint_renamed : (over : List C) (c : C) → IsHere c →
        fixpoint others (map name over) (map (source_renamed name) sources) (name c) ≡ fixpoint cells over sources c
    unfolding fixpoint
    fixpoint_renamed over c here =
        ap (λ (n : ℕ). iterate (round others (map (source_renamed name) sources)) (n * rounds_of_a_cell) (unknown_at others) (name c))
        (length-map over name)
        ∙ rounds_renamed (length over * rounds_of_a_cell) (unknown_at cells) (unknown_at others) (λ d is. ap nothing (are.kinds d is)) c here
