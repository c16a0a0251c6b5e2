-- What a settling leaves of the values that it changes in place: if it is refused, and if not.
use Rattle.std.proofs.Common.{◌≡◌, ℕ, Bool, true, false, List, length, refl, sym, ap, ◌∙◌, arith, inl, inr}
use Rattle.std.specs.Prelude.{◌&&◌, nat_lt, not}
use Rattle.std.proofs.lemmas.Bool.{cases_Bool, false_from_ne_true, ltb-false, ltb-true}
use Rattle.std.proofs.lemmas.List.{get_or_default, length-map}
use Rattle.pw_info.specs.declared.kind.Kind.TheVariants as kinds
use Rattle.pw_info.specs.declared.info.Info.{Info}
use Rattle.pw_info.specs.Information.{kind_of, nothing, Implies}
use Rattle.pw_premises.specs.Premises.{Premises}
use Rattle.pw_facts.proofs.Shown.{implies_same}
use Rattle.pw_cells.specs.Arrivals.{IsAccounted, mark_of}
use Rattle.pw_cells.specs.Cells.{Cell, Store, kept_in, kinds_of}
use Rattle.pw_network.specs.Network.{Network, IsWellNetwork}
use Rattle.pw_settle.specs.Calls.{is_set, visible_at}
use Rattle.pw_settle.specs.Growth.{CanContinue, HasValues, IsInterrupted, IsUpToDate, KeepsMore}
use Rattle.pw_settle.specs.Settled.{Settled, info_at}
use Rattle.pw_settle.specs.Values.{kinds_in, numbered}
use Rattle.pw_settle.specs.Due.{AreDue, IsDue, is_new}
use Rattle.pw_settle.specs.inside.Known.{AreKept, SaysTold, WereKept}
use Rattle.pw_settle.specs.inside.Progress.{AreMet, IsIdle}
use Rattle.pw_settle.specs.inside.Since.{AreReadTo, IsAtHand, IsBehind}
use Rattle.pw_settle.proofs.Accounted.{can_continue}
use Rattle.pw_settle.proofs.FittingValues.{fits_now}
use Rattle.pw_settle.proofs.KeptFacts.{implies_also, kind-kept, kind_there}
use Rattle.pw_settle.proofs.SettledStores.{settled_known}
use Rattle.pw_settle.proofs.StoreCells.{cells_kept}

-- what is known about the cells, as values of an earlier settling: with as many calls as it made, and
-- perhaps no instance is satisfied
abbrev pub known_since : Settled → List Info → List Premises → Settled
known_since before infos supports = record {
  infos = infos;
  supports = supports;
  worldview = before.worldview;
  instances = 0;
  calls = before.calls;
  mark = before.mark;
}

-- ---- nothing is new

neither : (a b : Bool) → a ≡ true → b ≡ true → not (a && b) ≡ true → ⊥
neither true true one two three = absurd (cc)
neither true false one two three = absurd (cc)
neither false b one two three = absurd (cc)

-- if nothing is new to the values, no instance waits
pub idle_up_to_date : (network : Network) (store : Store) (before : Settled) (queued : List Bool) → AreDue network store before.worldview before queued →
    IsUpToDate network store before → IsIdle queued
idle_up_to_date network store before queued due up n = false_from_ne_true (is_set queued n) (λ flag. waits ((due.are n).0 flag))
  where
    not_new : visible_at network before.worldview n ≡ true → is_new network before n ≡ true → ⊥
    not_new seen new =
        elim (cases_Bool (nat_lt n before.instances)) [
          | inl is ↦ neither (nat_lt n before.instances) (visible_at network before.worldview n) is seen new
          | inr late ↦
              let hidden = up.none_newer n (ltb-false n before.instances late) in
              absurd (cc)
        ]

    waits : IsDue network store before.worldview before n → ⊥
    waits (seen, inl new) = not_new seen new
    waits (seen, inr (cell, reader, differs)) = differs (up.said cell)

-- ---- it was refused

-- if more was kept of a cell than was known when these cells were read, something was new
behind_not_said : (network : Network) (store : Store) (before : Settled) (infos : List Info) (supports : List Premises) →
    AreReadTo store before.worldview (length store.cells) before.infos infos before.supports supports → IsBehind store before.worldview infos →
    IsUpToDate network store before → ⊥
behind_not_said network store before infos supports read (cell, there, unsaid) up =
    unsaid (implies_same (info_at infos cell) (kept_in store cell before.worldview)
    (elim (cases_Bool (nat_lt cell (length before.infos))) [
      | inl is ↦
          let below = ltb-true cell (length before.infos) is in
          read.infos_stay cell below
          ∙ sym (get_or_default before.infos cell (nothing ((numbered (kinds_in network)).kind cell)) (nothing kinds.Interval) below)
          ∙ sym (up.said cell)
      | inr later ↦ (read.read cell (ltb-false cell (length before.infos) later) (omega (arith, there, read.many))).info
    ]))

module _ (network : Network) (well : IsWellNetwork network) (store : Store) (same : kinds_of store ≡ kinds_in network) (before : Settled)
    (continues : CanContinue store before) where
  -- while it took in what came since
  pub refused_news : (read_infos infos : List Info) (read_supports supports : List Premises) →
      AreReadTo store before.worldview (length store.cells) before.infos read_infos before.supports read_supports →
      IsAtHand store before.worldview before.mark infos supports → IsBehind store before.worldview read_infos →
      IsInterrupted network store store before (known_since before infos supports)
  refused_news read_infos infos read_supports supports read hand behind = record {
    worldview = refl;
    cells = omega (arith, continues.accounted.there, hand.many);
    fits = record {
      instances = omega arith;
      cells = omega (arith, hand.many, cells_kept network store well same);
      kinds = λ cell below. hand.kinds cell below ∙ kind_there network store same cell;
      kept = hand.continues.accounted.kept;
      satisfied = λ number d below. absurd (omega (arith, below));
    };
    continues = record {
      as_many = hand.continues.as_many;
      within = hand.continues.within;
      enough = hand.continues.enough;
      accounted = hand.continues.accounted;
    };
    unchanged = λ up. absurd (behind_not_said network store before read_infos read_supports read behind up);
  }

  -- while it called instances
  module _ (new : Store) (read_infos infos : List Info) (read_supports supports : List Premises)
      (hand : IsAtHand store before.worldview before.mark read_infos read_supports) (were : WereKept network store new before.worldview infos supports) where
    kinds_then : kinds_of were.between ≡ kinds_in network
    kinds_then = were.before.kinds ∙ same

    as_many : length infos ≡ length read_infos
    as_many =
        were.kept.many ∙ cells_kept network were.between well kinds_then ∙ sym (cells_kept network store well same)
        ∙ sym hand.many

    still_kept : (cell : ℕ) → Implies (kept_in new cell before.worldview) (info_at infos cell)
    still_kept cell =
        implies_also (kept_in new cell before.worldview) (kept_in were.between cell before.worldview) (info_at infos cell) (sym (were.kept.infos_are cell))
        (were.after.more cell before.worldview)

    -- what accounted for what was kept of the cells did so when this was
    accounted_then : IsAccounted were.between before.mark before.worldview (length infos) (info_at infos)
    accounted_then =
        let was : IsAccounted were.between before.mark before.worldview (length read_infos) (info_at read_infos) =
        were.before.continues before.mark before.worldview (length read_infos) (info_at read_infos) hand.continues.accounted in
        record {
          marked = was.marked;
          there = omega (arith, was.there, as_many);
          told = λ cell below. was.told cell (omega (arith, below, as_many));
          kept = λ cell below. implies_same (kept_in were.between cell before.worldview) (info_at infos cell) (sym (were.kept.infos_are cell));
          came = was.came;
          all = λ list is cell below info kind says came.
              implies_also info (info_at infos cell) (kept_in were.between cell before.worldview) (were.kept.infos_are cell) says;
        }

    pub refused_calls : (queued : List Bool) → AreDue network store before.worldview before queued → (IsIdle queued → ⊥) →
        IsInterrupted network store new before (known_since before infos supports)
    refused_calls queued due waited = record {
      worldview = refl;
      cells = omega (arith, continues.accounted.there, hand.many, as_many);
      fits = record {
        instances = omega arith;
        cells = omega (arith, hand.many, as_many, cells_kept network store well same);
        kinds = λ cell below.
            ap kind_of (were.kept.infos_are cell) ∙ kind-kept were.between cell before.worldview ∙ kind_there network were.between kinds_then cell;
        kept = λ cell below. still_kept cell;
        satisfied = λ number d below. absurd (omega (arith, below));
      };
      continues = record {
        as_many = were.kept.as_many ∙ sym were.kept.many;
        within = were.kept.within;
        enough = λ cell below w has v possible. were.kept.enough cell w has v (were.after.more cell w v possible);
        accounted = were.after.continues before.mark before.worldview (length infos) (info_at infos) accounted_then;
      };
      unchanged = λ up. absurd (waited (idle_up_to_date network store before queued due up));
    }

-- ---- it was not

-- a store that has the kinds of another has as many cells
pub as_many_cells : (old new : Store) → kinds_of new ≡ kinds_of old → length new.cells ≡ length old.cells
as_many_cells old new same =
    sym (length-map new.cells (λ (x : Cell). x.kind)) ∙ ap length same ∙ length-map old.cells (λ (x : Cell). x.kind)

-- the values that it found
pub values_found : (network : Network) (well : IsWellNetwork network) (old new : Store) (w : Premises) (same : kinds_of old ≡ kinds_in network) →
    KeepsMore network old new → SaysTold old w → (queued : List Bool) → AreMet network new w queued → IsIdle queued →
    (infos : List Info) (supports : List Premises) → AreKept new w infos supports → (instances calls mark : ℕ) → instances ≡ length network.attached →
    mark ≡ mark_of new →
    HasValues network old new w (record { infos = infos; supports = supports; worldview = w; instances = instances; calls = calls; mark = mark })
values_found network well old new w same grows told queued satisfied done infos supports kept instances calls mark all now =
    let kinds = grows.kinds ∙ same in
    record {
      settled = λ sound. settled_known network well old new w same grows told queued satisfied done sound infos supports instances calls mark kept;
      cells = kept.many ∙ cells_kept network new well kinds;
      fits = fits_now network well new
          (record { infos = infos; supports = supports; worldview = w; instances = instances; calls = calls; mark = mark }) kinds all kept queued satisfied done;
      continues = can_continue network old new w grows told infos supports kept instances calls mark now;
      worldview = refl;
      instances = all;
    }
