-- The fixpoint: it implies the sources, and anything that implies them implies it. Everything else
-- that is known about it follows from these.
use Rattle.std.proofs.Common.{◌≡◌, ◌*◌, ◌≤◌, true, List, length, All, Contains, sum_by, sym, ◌∙◌, arith}
use Rattle.std.proofs.lemmas.List.Elements.{All-contains, All-weaker}
use Rattle.std.proofs.lemmas.List.Sums.{sum_by-le}
use Rattle.pw_info.specs.declared.info.Info.{Info}
use Rattle.pw_info.specs.Information.{Implies}
use Rattle.pw_info.specs.Rank.{rank_of}
use Rattle.pw_info.proofs.Informations.{implies_nothing, kind-closest, Implies-antisym}
use Rattle.pw_info.proofs.Ranks.{rank_most_of_all}
use Rattle.pw_settle.specs.Sources.{Cells, Source, AreOfTheirKinds, Fits, IsImplied}
use Rattle.pw_settle.specs.Fixpoint.{AreOver, fixpoint, unknown_at, round, rounds_of_a_cell}
use Rattle.pw_settle.proofs.Membership.{each_member}
use Rattle.pw_settle.proofs.RoundLemmas.{round_stays, stays_implied}
use Rattle.pw_settle.proofs.RoundsFall.{kind-rounds, rounds_below, rounds_imply}

-- the sum of the ranks of these cells is within the number of rounds that are made
ranks_most : {C : Type 0} (known : C → Info) (over : List C) → sum_by (λ c. rank_of (known c)) over ≤ length over * rounds_of_a_cell
ranks_most known over =
    sum_by-le (λ c. rank_of (known c)) rounds_of_a_cell over
    (each_member (λ c. rank_of (known c) ≤ rounds_of_a_cell) over (λ c is. omega (arith, rank_most_of_all (known c))))

module _ {C : Type 0} (cells : Cells C) where
  -- nothing is of the kind of each cell
  pub kind-nothing_known : AreOfTheirKinds cells (unknown_at cells)
  kind-nothing_known c = kind-closest (cells.kind c) (λ v. true)

  -- the fixpoint is of the kinds of the cells
  pub kind-fixpoint : (over : List C) (sources : List (Source C)) → AreOfTheirKinds cells (fixpoint cells over sources)
  unfolding fixpoint
  kind-fixpoint over sources = kind-rounds cells sources (length over * rounds_of_a_cell) (unknown_at cells) kind-nothing_known

  -- the fixpoint implies the sources
  pub fixpoint_says : (over : List C) (sources : List (Source C)) → AreOver cells over sources → All (IsImplied (fixpoint cells over sources)) sources
  unfolding fixpoint
  fixpoint_says over sources are =
      rounds_imply cells sources over are (length over * rounds_of_a_cell) (unknown_at cells) kind-nothing_known (ranks_most (unknown_at cells) over)

  -- anything that implies the sources implies the fixpoint
  pub fixpoint_below : (over : List C) (sources : List (Source C)) → All (Fits cells) sources → (known : C → Info) → AreOfTheirKinds cells known →
      All (IsImplied known) sources → (c : C) → Implies (known c) (fixpoint cells over sources c)
  unfolding fixpoint
  fixpoint_below over sources fit known kinds implied =
      rounds_below cells sources fit known kinds implied (length over * rounds_of_a_cell) (unknown_at cells) kind-nothing_known
      (λ c. implies_nothing (known c) (cells.kind c) (kinds c))

  -- what implies the sources, and is implied by the fixpoint, is the fixpoint
  pub fixpoint_is : (over : List C) (sources : List (Source C)) → All (Fits cells) sources → (known : C → Info) → AreOfTheirKinds cells known →
      All (IsImplied known) sources → ((c : C) → Implies (fixpoint cells over sources c) (known c)) → (c : C) → known c ≡ fixpoint cells over sources c
  fixpoint_is over sources fit known kinds implied above c =
      Implies-antisym (known c) (fixpoint cells over sources c) (kinds c ∙ sym (kind-fixpoint over sources c))
      (fixpoint_below over sources fit known kinds implied c) (above c)

  -- a round leaves the fixpoint unchanged
  pub fixpoint_stays : (over : List C) (sources : List (Source C)) → AreOver cells over sources → (c : C) →
      round cells sources (fixpoint cells over sources) c ≡ fixpoint cells over sources c
  fixpoint_stays over sources are =
      round_stays cells sources are.fit (fixpoint cells over sources) (kind-fixpoint over sources) (fixpoint_says over sources are)

  -- anything that a round leaves unchanged implies the fixpoint
  pub fixpoint_least : (over : List C) (sources : List (Source C)) → All (Fits cells) sources → (known : C → Info) → AreOfTheirKinds cells known →
      ((c : C) → round cells sources known c ≡ known c) → (c : C) → Implies (known c) (fixpoint cells over sources c)
  fixpoint_least over sources fit known kinds stays =
      fixpoint_below over sources fit known kinds (stays_implied cells sources fit known kinds stays)

  -- if anything that implies the one sources implies the others, the fixpoint of the ones implies
  -- that of the others
  pub fixpoint_above : (over wider : List C) (sources others : List (Source C)) → All (Fits cells) sources → AreOver cells wider others →
      ((known : C → Info) → AreOfTheirKinds cells known → All (IsImplied known) others → All (IsImplied known) sources) →
      (c : C) → Implies (fixpoint cells wider others c) (fixpoint cells over sources c)
  fixpoint_above over wider sources others fit are turns =
      fixpoint_below over sources fit (fixpoint cells wider others) (kind-fixpoint wider others)
      (turns (fixpoint cells wider others) (kind-fixpoint wider others) (fixpoint_says wider others are))

  -- if the same implies the one sources and the others, they have one fixpoint
  pub fixpoint_same : (over wider : List C) (sources others : List (Source C)) → AreOver cells over sources → AreOver cells wider others →
      ((known : C → Info) → AreOfTheirKinds cells known → All (IsImplied known) sources → All (IsImplied known) others) →
      ((known : C → Info) → AreOfTheirKinds cells known → All (IsImplied known) others → All (IsImplied known) sources) →
      (c : C) → fixpoint cells over sources c ≡ fixpoint cells wider others c
  fixpoint_same over wider sources others are others_are turns back c =
      Implies-antisym (fixpoint cells over sources c) (fixpoint cells wider others c)
      (kind-fixpoint over sources c ∙ sym (kind-fixpoint wider others c))
      (fixpoint_above wider over others sources others_are.fit are turns c)
      (fixpoint_above over wider sources others are.fit others_are back c)

  -- the fixpoint of more sources implies that of fewer
  pub fixpoint_more : (over wider : List C) (sources more : List (Source C)) → All (Fits cells) sources → AreOver cells wider more →
      All (Contains more) sources → (c : C) → Implies (fixpoint cells wider more c) (fixpoint cells over sources c)
  fixpoint_more over wider sources more fit are among =
      fixpoint_above over wider sources more fit are (λ known kinds implied.
      All-weaker (Contains more) (IsImplied known) (λ source is. All-contains (IsImplied known) more source implied is) sources among)

  -- the number of cells that the fixpoint is over does not matter
  pub fixpoint_wider : (over wider : List C) (sources : List (Source C)) → AreOver cells over sources → AreOver cells wider sources →
      (c : C) → fixpoint cells over sources c ≡ fixpoint cells wider sources c
  fixpoint_wider over wider sources are also =
      fixpoint_same over wider sources sources are also (λ known kinds implied. implied) (λ known kinds implied. implied)
