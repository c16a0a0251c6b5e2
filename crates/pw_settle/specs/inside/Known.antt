-- What is kept of each cell in a worldview, as a settling has it at hand.
use Rattle.std.specs.Prelude.{◌+◌, IfNone, IfSome, OnErr, OnOk, Option, Result}
use Rattle.std.specs.Prelude.{◌≡◌, ◌⊎◌, ℕ, ◌<◌, Bool, true, false, List, length, fold, set, refl, [], ◌∷◌, ◌++◌, All, map}
use Rattle.std.specs.FinSet.{union, is_subset, code}
use Rattle.pw_info.specs.declared.info.Info.{Info}
use Rattle.pw_info.specs.Information.{Implies, kind_of, meet}
use Rattle.pw_premises.specs.Premises.{Premises}
use Rattle.pw_facts.specs.declared.fact.Fact.{Fact}
use Rattle.pw_facts.specs.Facts.{ShowTogether, IsLeastAbove}
use Rattle.pw_cells.specs.Cells.{IsUnsaid, Store, fact_on, kept_in, kind_in_store, kinds_of, told_in}
use Rattle.pw_cells.specs.Shown.{IsKeptIn}
use Rattle.pw_cells.specs.Arrivals.{Continues, Remembers}
use Rattle.pw_cells.specs.Changes.{AssimilatesAt, GainsKept, LeavesOthers}
use Rattle.pw_network.specs.Network.{Network, Attached}
use Rattle.pw_settle.specs.Settled.{info_at, support_at, Settled}
use Rattle.pw_settle.specs.Growth.{KeepsMore}
use Rattle.pw_settle.specs.Sound.{LieUpstream, RestsUpstream}
use Rattle.pw_info.specs.declared.kind.Kind.{Kind}
use Rattle.pw_procs.specs.Procedure.{Procedure}
use Rattle.pw_decl.specs.Expansion.{Instance, SpeaksOf, FitsCells}
use Rattle.pw_settle.specs.Values.{numbered, propagators_of}
use Rattle.std.specs.Coded.{Coded, code_by, coded×, coded_ℕ, coded_list}
use Rattle.pw_settle.specs.Sources.{said_by}

-- for each cell of the store, the information that is kept in the worldview, and premises of the
-- worldview that are enough for it
pub record AreKept (store : Store) (w : Premises) (infos : List Info) (supports : List Premises)
    : Type 0 where
  pub many : length infos ≡ length store.cells
  pub as_many : length supports ≡ length store.cells
  pub infos_are : (cell : ℕ) → info_at infos cell ≡ kept_in store cell w
  pub within : (cell : ℕ) → is_subset (support_at supports cell) w ≡ true
  pub enough : (cell : ℕ) → IsLeastAbove (support_at supports cell) (kept_in store cell)
      (info_at infos cell)

-- this was kept of the cells between two stores, in which no less is kept than before
pub record WereKept (network : Network) (old new : Store) (w : Premises) (infos : List Info)
    (supports : List Premises) : Type 0 where
  pub between : Store
  pub before : KeepsMore network old between
  pub kept : AreKept between w infos supports
  pub after : KeepsMore network between new

-- one cell more is listed: an information of which this holds, with its premises
pub record ListsOneMore (Is : Info → Premises → Type 0) (infos more_infos : List Info)
    (supports more_supports : List Premises) : Type 0 where
  pub fact : Fact
  pub is : Is fact.info fact.support
  pub infos_are : more_infos ≡ infos ++ fact.info ∷ []
  pub supports_are : more_supports ≡ supports ++ fact.support ∷ []

-- what is kept says at least what was told
abbrev pub SaysTold : Store → Premises → Type 0
SaysTold store w = (cell : ℕ) → cell < length store.cells →
    Implies (kept_in store cell w) (told_in store cell w)

-- the premises that the kept facts rest on lie upstream too
pub record AreUpstream (network : Network) (given : ℕ → ℕ → Bool) (store : Store)
    (supports : List Premises) : Type 0 where
  pub kept : RestsUpstream network given store
  pub known : LieUpstream network given supports

-- the premises of an instance, and those at hand for its inputs
abbrev pub joined : List Premises → Premises → List ℕ → Premises
joined supports support inputs = fold (λ all input.
    union all (support_at supports input)) support inputs

-- an information that an instance makes of what is at hand, on the premises of the instance and
-- those at hand for its inputs
abbrev pub news_on : List Premises → Attached → Info → Fact
news_on supports a info = fact_on info (joined supports a.support a.instance.inputs)

-- the store keeps a fact about a cell
pub record Keeps (cell : ℕ) (fact : Fact) (old new : Store) : Type 0 where
  pub told : (w : Premises) → told_in new cell w ≡ told_in old cell w
  pub kept : GainsKept cell fact old new
  pub assimilates : AssimilatesAt cell fact old new
  pub others : LeavesOthers cell old new
  pub kinds : kinds_of new ≡ kinds_of old
  pub remembers : Remembers cell fact old new
  pub continues : Continues old new

-- a fact is merged into what is at hand for a cell: the informations are merged, and the new
-- premises are among the old ones and the fact's, and are enough for the merge
pub record TakesIn (cell : ℕ) (fact : Fact) (infos new_infos : List Info)
    (supports new_supports : List Premises) : Type 0 where
  pub infos_are : new_infos ≡ set infos cell (meet (info_at infos cell) fact.info)
  pub supports_are : new_supports ≡ set supports cell (support_at new_supports cell)
  pub rests : is_subset (support_at new_supports cell)
      (union (support_at supports cell) fact.support) ≡ true
  pub together : ShowTogether
      (record { info = info_at infos cell; support = support_at supports cell }) fact
      (record {
        info = meet (info_at infos cell) fact.info;
        support =
            support_at new_supports cell;
      })

-- an information can be merged into what is at hand for a cell: that is of its kind, and does not say
-- it
pub record IsNewTo (infos : List Info) (supports : List Premises) (cell : ℕ) (info : Info)
    : Type 0 where
  pub there : cell < length infos
  pub as_many : length supports ≡ length infos
  pub kind : kind_of info ≡ kind_of (info_at infos cell)
  pub news : IsUnsaid (info_at infos cell) info

-- what is at hand stays
pub record StaysAtHand (infos new_infos : List Info) (supports new_supports : List Premises)
    : Type 0 where
  pub infos_are : new_infos ≡ infos
  pub supports_are : new_supports ≡ supports

-- a fact is merged into what is at hand for a cell. If memory is refused, what is at hand stays
pub record PerhapsTakesIn {A E : Type 0} (result : Result A E) (cell : ℕ) (fact : Fact)
    (infos new_infos : List Info) (supports new_supports : List Premises) : Type 0 where
  pub taken : OnOk result (TakesIn cell fact infos new_infos supports new_supports)
  pub refused : OnErr result (StaysAtHand infos new_infos supports new_supports)

-- there are premises at hand for each input of an instance
abbrev pub AreInputsThere : List Premises → Attached → Type 0
AreInputsThere supports a = All (λ input. input < length supports) a.instance.inputs

-- an information on the premises of an instance can be kept of a cell, and merged into what is at hand:
-- it is of the cell's kind, there are premises at hand for each input, and it is neither said by what
-- is at hand nor kept on these premises
pub record AreNews (store : Store) (infos : List Info) (supports : List Premises) (cell : ℕ)
    (a : Attached) (info : Info) : Type 0 where
  pub there : cell < length store.cells
  pub kind : kind_of info ≡ kind_in_store store cell
  pub inputs : AreInputsThere supports a
  pub new : IsNewTo infos supports cell info
  pub unsaid : IsUnsaid (kept_in store cell (news_on supports a info).support) info

-- the store keeps a fact about a cell, and it is merged into what is at hand
pub record KeepsAndTakesIn (cell : ℕ) (fact : Fact) (old new : Store) (infos new_infos : List Info)
    (supports new_supports : List Premises) : Type 0 where
  pub keeps : Keeps cell fact old new
  pub takes_in : TakesIn cell fact infos new_infos supports new_supports

-- the store is as it was, or keeps a fact about a cell; what is at hand stays
pub record PerhapsKeeps (cell : ℕ) (fact : Fact) (old new : Store) (infos new_infos : List Info)
    (supports new_supports : List Premises) : Type 0 where
  pub store : (new ≡ old) ⊎ Keeps cell fact old new
  pub stays : StaysAtHand infos new_infos supports new_supports

-- news are kept and merged into what is at hand. If memory is refused, perhaps the store keeps them, but
-- what is at hand stays
pub record KeepsNews {A E : Type 0} (result : Result A E) (cell : ℕ) (fact : Fact) (old new : Store)
    (infos new_infos : List Info) (supports new_supports : List Premises) : Type 0 where
  pub kept : OnOk result (KeepsAndTakesIn cell fact old new infos new_infos supports new_supports)
  pub refused : OnErr result (PerhapsKeeps cell fact old new infos new_infos supports new_supports)

-- something is at hand for a cell of the store, and is of its kind
pub record IsAtHandFor (store : Store) (cell : ℕ) (infos : List Info) (supports : List Premises)
    : Type 0 where
  pub exists : cell < length store.cells
  pub there : cell < length infos
  pub as_many : length supports ≡ length infos
  pub kind : kind_of (info_at infos cell) ≡ kind_in_store store cell

-- what is kept of a cell in a worldview is merged into what is at hand for it. Or it is no news:
-- what is at hand says as much, and stays
pub record TakesInKept (store : Store) (cell : ℕ) (w : Premises) (is_news : Bool)
    (infos new_infos : List Info) (supports new_supports : List Premises) : Type 0 where
  pub news : is_news ≡ true → (fact : Fact) × IsKeptIn store cell w fact
      × TakesIn cell fact infos new_infos supports new_supports
  pub unsaid : is_news ≡ true → IsUnsaid (info_at infos cell) (kept_in store cell w)
  pub none : is_news ≡ false → Implies (info_at infos cell) (kept_in store cell w)
      × (new_infos ≡ infos) × (new_supports ≡ supports)

-- what is kept of a cell in a worldview takes the place of what is at hand for it
pub record PutsKept (store : Store) (cell : ℕ) (w : Premises) (infos new_infos : List Info)
    (supports new_supports : List Premises) : Type 0 where
  pub fact : Fact
  pub is : IsKeptIn store cell w fact
  pub infos_are : new_infos ≡ set infos cell fact.info
  pub supports_are : new_supports ≡ set supports cell fact.support

-- what is kept of a cell in a worldview is news, and what is at hand for it stays
pub record LeavesKept (store : Store) (cell : ℕ) (w : Premises) (infos new_infos : List Info)
    (supports new_supports : List Premises) : Type 0 where
  pub unsaid : IsUnsaid (info_at infos cell) (kept_in store cell w)
  pub stays : StaysAtHand infos new_infos supports new_supports

-- the instance reads and writes existing cells, of kinds that its procedure accepts
abbrev pub IsPlaced : List Procedure → List Kind → Instance ℕ → Type 0
IsPlaced procedures kinds instance =
    SpeaksOf (λ cell. cell < length kinds) instance
    × ∥ FitsCells procedures (numbered kinds).kind instance ∥₁

-- it is stored as the list of informations, the list of premises, the worldview and the three numbers
abbrev pub settled_code : Coded Info → Coded Settled
settled_code info =
    code_by _ (coded× (coded_list info) (coded× (coded_list (code coded_ℕ))
    (coded× (code coded_ℕ) (coded× coded_ℕ (coded× coded_ℕ coded_ℕ)))))
    (λ s. (s.infos, (s.supports, (s.worldview, (s.instances, (s.calls, s.mark))))))
    (λ p. record {
      infos = p.0;
      supports = p.1.0;
      worldview = p.1.1.0;
      instances =
          p.1.1.1.0;
      calls = p.1.1.1.1.0;
      mark = p.1.1.1.1.1;
    }) (λ _. refl)

-- where all lay upstream before, it does now
abbrev pub StayUpstream : Network → Store → List Premises → Store → List Premises → Type 0
StayUpstream network old supports new now =
    (given : ℕ → ℕ → Bool) → AreUpstream network given old supports →
    AreUpstream network given new now

-- the procedure of the instance makes this of what is known of its inputs
abbrev pub Gives : List Procedure → List Info → Attached → Info → Type 0
Gives procedures known a info =
    All (λ source. said_by (info_at known) source
    ≡ info) (propagators_of procedures (a.instance ∷ []))

-- and this is news about its output, of the kind of that cell
pub record GivesNews (procedures : List Procedure) (known : List Info) (a : Attached) (info : Info)
    : Type 0 where
  pub gives : Gives procedures known a info
  pub kind : kind_of info ≡ (numbered (map kind_of known)).kind a.instance.output
  pub news : IsUnsaid (info_at known a.instance.output) info

-- or what it makes of them says nothing that is not known
pub record GivesNone (procedures : List Procedure) (known : List Info) (a : Attached) : Type 0 where
  pub info : Info
  pub gives : Gives procedures known a info
  pub said : Implies (info_at known a.instance.output) info

-- one call more gives this information, of the kind of the instance's output
pub record GivesOnce (procedures : List Procedure) (known : List Info) (a : Attached) (old new : ℕ) (info : Info)
    : Type 0 where
  pub counted : new ≡ old + 1
  pub says : Gives procedures known a info
  pub kind : kind_of info ≡ (numbered (map kind_of known)).kind a.instance.output

-- one call more gives news about the instance's output, or nothing that is not known
pub record GivesNewsOnce (procedures : List Procedure) (known : List Info) (a : Attached) (old new : ℕ) (found : Option Info)
    : Type 0 where
  pub counted : new ≡ old + 1
  pub news : IfSome found (GivesNews procedures known a)
  pub none : IfNone found (GivesNone procedures known a)
