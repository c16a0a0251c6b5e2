-- An instance in the list of a network, by its number: whether it is visible. And where all instances are.
use Rattle.std.proofs.Common.{◌≡◌, ℕ, ◌<◌, true, List, [], ◌∷◌, All, length, map, get_or, refl, sym, ap, ◌∙◌}
use Rattle.std.specs.Prelude.{replicate}
use Rattle.std.specs.FinSet.{is_subset}
use Rattle.std.proofs.lemmas.List.{length-map}
use Rattle.std.proofs.lemmas.List.Elements.{All-head, All-tail}
use Rattle.std.proofs.lemmas.Simd.{map-map}
use Rattle.pw_premises.specs.Premises.{Premises}
use Rattle.pw_network.specs.declared.instance.Instance.{Instance}
use Rattle.pw_network.specs.inside.Held.{attachment}
use Rattle.pw_network.specs.Network.{Attached, Network, AreAllVisible}
use Rattle.pw_settle.specs.Calls.{is_instance_visible, is_set}
use Rattle.pw_settle.proofs.KeptProgress.{visible_no}
use Rattle.pw_settle.proofs.NewsLemmas.{kept_instance}

-- its flag is whether its premises are all in the worldview
pub seen_at : (network : Network) (instances : List Instance) (w : Premises) (number : ℕ) (instance : Instance) → map attachment instances ≡ network.attached →
    number < length network.attached → instance ≡ get_or instances number instance →
    is_set (map (is_instance_visible w) network.attached) number ≡ is_subset (attachment instance).support w
seen_at network instances w number instance same below is =
    sym (visible_no network w number (attachment instance) below)
    ∙ ap (is_instance_visible w) (kept_instance network instances number instance (attachment instance) same below is)

-- the flags of listed instances are those of what is attached
pub listed_seen : (network : Network) (instances : List Instance) (w : Premises) → map attachment instances ≡ network.attached →
    map (λ instance. is_instance_visible w (attachment instance)) instances ≡ map (is_instance_visible w) network.attached
listed_seen network instances w same = sym (map-map (is_instance_visible w) attachment instances) ∙ ap (map (is_instance_visible w)) same

-- where all instances are visible, all flags are set
all_flags : (w : Premises) (attached : List Attached) → All (λ a. is_subset a.support w ≡ true) attached →
    replicate (length attached) true ≡ map (is_instance_visible w) attached
all_flags w [] all = refl
all_flags w (a ∷ rest) all =
    λ i. sym (All-head (λ (x : Attached). is_subset x.support w ≡ true) a rest all) i
    ∷ all_flags w rest (All-tail (λ (x : Attached). is_subset x.support w ≡ true) a rest all) i

pub all_seen : (network : Network) (instances : List Instance) (w : Premises) → map attachment instances ≡ network.attached → AreAllVisible network w →
    replicate (length instances) true ≡ map (is_instance_visible w) network.attached
all_seen network instances w same all =
    ap (λ (count : ℕ). replicate count true) (sym (length-map instances attachment) ∙ ap length same) ∙ all_flags w network.attached all
