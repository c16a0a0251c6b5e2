-- What a settling found accounts for what is kept, with what comes later.
use Rattle.std.proofs.Common.{◌≡◌, ℕ, ◌-◌, true, List, [], All, Some, None, drop, length, sym, ap, ◌∙◌, subst, arith, inl, inr}
use Rattle.std.specs.Prelude.{if◌then◌else◌, nat_lt}
use Rattle.std.proofs.Math.ListN.{drop_of_length-le}
use Rattle.std.proofs.lemmas.Bool.{cases_Bool, ltb-true}
use Rattle.std.proofs.lemmas.List.{length-map}
use Rattle.std.proofs.lemmas.List.Elements.{All-nil}
use Rattle.pw_info.specs.declared.info.Info.{Info}
use Rattle.pw_info.specs.Information.{allows}
use Rattle.pw_premises.specs.Premises.{Premises}
use Rattle.pw_cells.specs.declared.arrival.Arrival.{Arrival}
use Rattle.pw_cells.specs.Arrivals.{IsAccounted, IsKept, mark_of, since}
use Rattle.pw_cells.specs.Cells.{Cell, Store}
use Rattle.pw_network.specs.Network.{Network}
use Rattle.pw_settle.specs.Growth.{CanContinue, KeepsMore}
use Rattle.pw_settle.specs.inside.Known.{AreKept, SaysTold}
use Rattle.pw_settle.specs.Settled.{info_at}
use Rattle.pw_settle.proofs.SettledStores.{told_still}

-- since a mark that is set now, nothing came
since_now : (store : Store) → since store (mark_of store) ≡ Some []
since_now store =
    elim (cases_Bool (nat_lt (mark_of store) store.arrivals.past)) [
      | inl less ↦ absurd (omega (arith, ltb-true (mark_of store) store.arrivals.past less))
      | inr not ↦
          ap (λ b. if b then None else Some (drop (mark_of store - store.arrivals.past) store.arrivals.list)) not
          ∙ ap (λ (l : List Arrival). Some l) (drop_of_length-le store.arrivals.list (omega arith))
    ]

-- what is kept of the cells is known now
accounted_now : (store : Store) (w : Premises) (infos : List Info) (supports : List Premises) → AreKept store w infos supports → SaysTold store w →
    IsAccounted store (mark_of store) w (length infos) (info_at infos)
accounted_now store w infos supports kept told = record {
  marked = omega arith;
  there = omega (arith, kept.many);
  told = λ cell below. told cell (omega (arith, below, kept.many));
  kept = λ cell below v possible. subst (λ (i : Info). allows i v ≡ true) (sym (kept.infos_are cell)) possible;
  came = λ list is. subst (All (IsKept store)) (nothing_came list is) (All-nil (IsKept store));
  all = λ list is cell below info kind says came v possible. subst (λ (i : Info). allows i v ≡ true) (kept.infos_are cell) (says v possible);
} where
  nothing_came : (list : List Arrival) → since store (mark_of store) ≡ Some list → [] ≡ list
  nothing_came list is = let one : Some [] ≡ Some list = sym (since_now store) ∙ is in cc

-- so a settling can continue from what is kept, with a mark that is set now
pub can_continue : (network : Network) (old new : Store) (w : Premises) → KeepsMore network old new → SaysTold old w → (infos : List Info)
    (supports : List Premises) → AreKept new w infos supports → (instances calls mark : ℕ) → mark ≡ mark_of new →
    CanContinue new (record { infos = infos; supports = supports; worldview = w; instances = instances; calls = calls; mark = mark })
can_continue network old new w grows told infos supports kept instances calls mark now = record {
  as_many = kept.as_many ∙ sym kept.many;
  within = kept.within;
  enough = λ cell below. kept.enough cell;
  accounted = subst (λ (m : ℕ). IsAccounted new m w (length infos) (info_at infos)) (sym now)
      (accounted_now new w infos supports kept (λ cell below. told_still network old new w grows told cell (omega (arith, below, as_many_cells))));
} where
  as_many_cells : length new.cells ≡ length old.cells
  as_many_cells = sym (length-map new.cells (λ (x : Cell). x.kind)) ∙ ap length grows.kinds ∙ length-map old.cells (λ (x : Cell). x.kind)
