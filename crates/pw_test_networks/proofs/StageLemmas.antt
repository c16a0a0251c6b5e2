-- A store over which a network grows.
use Rattle.std.proofs.Common.{◌≡◌, ◌++◌, ℕ, List, map, sym, ap, ◌∙◌, subst, arith}
use Rattle.pw_info.specs.declared.kind.Kind.{Kind}
use Rattle.pw_premises.specs.Premises.{Premises}
use Rattle.pw_cells.specs.Cells.{Cell, Store, new_cell}
use Rattle.pw_decl.specs.declared.step.Callable.{Callable}
use Rattle.pw_decl.specs.Expansion.{inner_kinds_of}
use Rattle.pw_network.specs.Network.{IsWellNetwork, Network, with_attached}
use Rattle.pw_settle.specs.Values.{kinds_in}
use Rattle.pw_settle.specs.Growth.{IsWider}
use Rattle.pw_settle.proofs.FittingLaws.{fits_added, fits_wider}
use Rattle.pw_settle.proofs.SoundStores.{sound_attached}
use Rattle.pw_settle.proofs.StoreCells.{cells_kept, kinds_added}
use Rattle.pw_settle.proofs.WiderNetworks.{kinds_with_attached, wide_attached}
use Rattle.pw_settle.specs.Sound.{IsSoundFor}
use Rattle.pw_test_networks.specs.Settling.{LeavesFitting}

-- where a callable is attached, and its inner cells are added to the store, of which nothing was told
module _ (network : Network) (line : ℕ) (callable : Callable) (cells : List ℕ) (support : Premises) (wider : Network)
    (well : IsWellNetwork network) (also : IsWellNetwork wider) (is : wider ≡ with_attached network line callable cells support)
    (old new : Store) (are : new.cells ≡ old.cells ++ map new_cell (inner_kinds_of network.declared.compounds callable))
    (sound : IsSoundFor network old) where
  abbrev own : List Kind
  own = inner_kinds_of network.declared.compounds callable

  wide : IsWider network wider
  wide = subst (IsWider network) (sym is) (wide_attached network line callable cells support)

  kinds : map (λ (c : Cell). c.kind) new.cells ≡ kinds_in wider
  kinds =
      ap (λ (cs : List Cell). map (λ (c : Cell). c.kind) cs) are ∙ kinds_added old.cells own ∙ ap (λ (l : List Kind). l ++ own) sound.kinds
      ∙ sym (kinds_with_attached network line callable cells support) ∙ ap kinds_in (sym is)

  -- the store is sound again
  pub sound_for_attached : IsSoundFor wider new
  sound_for_attached = record {
    kinds = kinds;
    sound = sound_attached network wider wide well also old new own sound.kinds kinds are sound.sound;
  }

  -- and what fitted still fits
  pub fits_attached : LeavesFitting network old wider new
  fits_attached settled fits =
      fits_wider network wider new settled well wide
      (fits_added network old new settled own are (let many = cells_kept network old well sound.kinds in omega (arith, many)) fits)
