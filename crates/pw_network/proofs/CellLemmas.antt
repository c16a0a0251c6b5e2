-- The cells of a network by number: the declared ones, and after them the inner ones.
use Rattle.std.proofs.Common.{◌≡◌, ℕ, zero, suc, ◌-◌, ◌<◌, ◌≤◌, List, [], ◌∷◌, ◌++◌, length, map, get_or, refl, sym, ap, ◌∙◌, arith}
use Rattle.std.proofs.lemmas.List.{length-map, get_or-append_right, get_or_append_left}
use Rattle.pw_network.specs.declared.network.InnerCell.{InnerCell as InnerType}
use Rattle.pw_network.specs.Network.{InnerCell}
use Rattle.pw_network.specs.inside.Held.{inner_of}

get-kept : {C : Type 0} (f : InnerCell → C) (inner : List InnerType) (place : ℕ) (x : InnerType) (e : C) →
    place < length inner → x ≡ get_or inner place x → get_or (map f (map inner_of inner)) place e ≡ f (inner_of x)
get-kept f [] place x e there read = absurd (omega arith)
get-kept f (y ∷ inner) zero x e there read = ap (λ z. f (inner_of z)) (sym read)
get-kept f (y ∷ inner) (suc place) x e there read = get-kept f inner place x e (omega arith) read

-- past the declared cells comes what is kept of the inner cells
pub after_declared : {C : Type 0} (f : InnerCell → C) (declared : List C) (inner : List InnerType) (n cell place : ℕ) (x : InnerType) (e : C) →
    length declared ≡ n → n ≤ cell → cell - n ≡ place → place < length inner → x ≡ get_or inner place x →
    f (inner_of x) ≡ get_or (declared ++ map f (map inner_of inner)) cell e
after_declared f declared inner n cell place x e long past at there read =
    sym (get_or-append_right declared (map f (map inner_of inner)) n cell e long past
    ∙ ap (λ k. get_or (map f (map inner_of inner)) k e) at ∙ get-kept f inner place x e there read)

all_alike : {B C : Type 0} (declared : List B) (cell : ℕ) (x : C) → get_or (map (λ (name : B). x) declared) cell x ≡ x
all_alike [] cell x = refl
all_alike (y ∷ declared) zero x = refl
all_alike (y ∷ declared) (suc cell) x = all_alike declared cell x

-- what is said about each declared cell is said about one
pub among_declared : {B C : Type 0} (declared : List B) (more : List C) (cell : ℕ) (x : C) → cell < length declared →
    x ≡ get_or (map (λ (name : B). x) declared ++ more) cell x
among_declared declared more cell x there =
    let l = length-map declared (λ name. x) in
    sym (get_or_append_left (map (λ name. x) declared) more x cell (omega arith) ∙ all_alike declared cell x)
