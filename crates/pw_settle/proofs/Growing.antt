-- How stores that keep more follow on one another.
use Rattle.std.proofs.Common.{◌≡◌, ℕ, ◌++◌, length, map, refl, sym, ap, subst, ◌∙◌}
use Rattle.std.proofs.Math.Path.{fun_ext}
use Rattle.std.specs.List.{range_with_len}
use Rattle.pw_info.specs.declared.info.Info.{Info}
use Rattle.pw_premises.specs.Premises.{Premises}
use Rattle.pw_cells.specs.Cells.{Store, told_in}
use Rattle.pw_network.specs.Network.{Network}
use Rattle.pw_settle.specs.Growth.{KeepsMore}
use Rattle.pw_settle.specs.Fixpoint.{fixpoint}
use Rattle.pw_settle.specs.Settled.{IsSettled, Settled, support_at}
use Rattle.pw_settle.specs.Sound.{IsSoundFor}
use Rattle.pw_settle.specs.Sources.{Told}
use Rattle.pw_settle.specs.Values.{kinds_in, numbered, numbers_of_cells, propagators_of, value_in, visible_instances}

-- the value of a cell depends only on what is told
pub same_value : (network : Network) (old new : Store) → ((cell : ℕ) (w : Premises) → told_in new cell w ≡ told_in old cell w) →
    (w : Premises) (cell : ℕ) → value_in network new w cell ≡ value_in network old w cell
same_value network old new told w cell =
    ap (λ (tells : ℕ → Info). fixpoint (numbered (kinds_in network)) (numbers_of_cells (kinds_in network))
    (map (λ c. Told c (tells c)) (range_with_len 0 (length (kinds_in network)))
    ++ propagators_of network.declared.procedures (visible_instances network.attached w)) cell) (fun_ext (λ c. told c w))

-- a store keeps at least as much as itself
pub keeps_more_same : (network : Network) (store : Store) → KeepsMore network store store
keeps_more_same network store = record {
  kinds = refl;
  told = λ cell w. refl;
  more = λ cell w v possible. possible;
  sound = λ sound. sound;
  continues = λ mark w count known was. was;
}

-- and keeping more is transitive
pub keeps_more_then : (network : Network) (a b c : Store) → KeepsMore network a b → KeepsMore network b c → KeepsMore network a c
keeps_more_then network a b c first then = record {
  kinds = then.kinds ∙ first.kinds;
  told = λ cell w. then.told cell w ∙ first.told cell w;
  more = λ cell w v possible. first.more cell w v (then.more cell w v possible);
  sound = λ sound. then.sound (first.sound sound);
  continues = λ mark w count known was. then.continues mark w count known (first.continues mark w count known was);
}

-- a sound store that keeps more stays sound
pub still_sound_for : (network : Network) (old new : Store) → KeepsMore network old new → IsSoundFor network old → IsSoundFor network new
still_sound_for network old new grows is = record {
  kinds = grows.kinds ∙ is.kinds;
  sound = grows.sound is.sound;
}

-- settled values stay settled if the told facts stay
pub settled_still : (network : Network) (old new : Store) (w : Premises) (settled : Settled) → KeepsMore network old new →
    IsSettled network old w settled → IsSettled network new settled.worldview settled
settled_still network old new w settled grows is =
    subst (λ (u : Premises). IsSettled network new u settled) (sym is.worldview_is)
    (record {
      worldview_is = is.worldview_is;
      cells = is.cells;
      values = λ cell below. is.values cell below ∙ sym (same_value network old new grows.told w cell);
      supports = is.supports;
      within = is.within;
      enough = λ cell below.
          same_value network old new grows.told (support_at settled.supports cell) cell ∙ is.enough cell below
          ∙ sym (same_value network old new grows.told w cell);
    })
