-- What is at a place of a list that is kept, as the declaration has it.
use Rattle.std.proofs.Common.{◌≡◌, ℕ, zero, suc, ◌<◌, Bool, IsTrue, List, [], ◌∷◌, map, length, get_or, Option, Some, None, refl, sym, ap, subst, ◌∙◌, arith, ◌↔◌}
use Rattle.std.specs.Prelude.{All, slice_get}
use Rattle.std.proofs.lemmas.List.{length-map}
use Rattle.pw_info.specs.declared.kind.Kind.{Kind}
use Rattle.pw_procs.specs.Procedure.{Procedure}
use Rattle.pw_procs.specs.Signature.{Accepts}
use Rattle.std.specs.Option.{option_map, option_or}
use Rattle.pw_decl.specs.declared.step.Callable.{Callable}
use Rattle.pw_decl.specs.declared.step.Callable.TheVariants as callables
use Rattle.pw_decl.specs.Compound.{Compound}

-- what is at a place, by the function
pub got : {A B : Type 0} (f : A → B) (xs : List A) (n : ℕ) (x : A) → n < length xs → x ≡ get_or xs n x → slice_get (map f xs) n ≡ Some (f x)
got f [] n x there read = absurd (omega arith)
got f (y ∷ ys) zero x there read = ap (λ z. Some (f z)) (sym read)
got f (y ∷ ys) (suc n) x there read = got f ys n x (omega arith) read

get-map : {A B : Type 0} (f : A → B) (xs : List A) (n : ℕ) (x : A) → n < length xs → x ≡ get_or xs n x → get_or (map f xs) n (f x) ≡ f x
get-map f [] n x there read = absurd (omega arith)
get-map f (y ∷ ys) zero x there read = ap f (sym read)
get-map f (y ∷ ys) (suc n) x there read = get-map f ys n x (omega arith) read

-- what holds of all of them holds of it
pub holds_at : {A B : Type 0} (P : B → Type 0) (f : A → B) (xs : List A) (n : ℕ) (x : A) → All P (map f xs) → n < length xs → x ≡ get_or xs n x → P (f x)
holds_at P f xs n x all there read =
    subst P (get-map f xs n x there read) (all n (f x) (let same = length-map xs f in omega arith))

-- two options with equal values have equal contents
pub some_is : {A : Type 0} (x y : A) → Some x ≡ Some y → x ≡ y
some_is x y e = cc

-- the procedure at a place accepts the kinds
pub stored_accepts : (procedures : List Procedure) (n : ℕ) (p : Procedure) (kinds : List Kind) (t : Bool) → slice_get procedures n ≡ Some p →
    IsTrue t ↔ Accepts p.signature kinds → IsTrue t ↔ ((q : Procedure) × (slice_get procedures n ≡ Some q) × Accepts q.signature kinds)
stored_accepts procedures n p kinds t at same = (
  λ yes. (p, at, same.0 yes),
  λ other. same.1 (subst (λ (q : Procedure). Accepts q.signature kinds) (some_is other.0 p (sym other.1 ∙ at)) other.2),
)

-- the compound at a place does
pub compound_accepts : (compounds : List Compound) (n : ℕ) (c : Compound) (kinds : List Kind) (t : Bool) → slice_get compounds n ≡ Some c →
    IsTrue t ↔ (kinds ≡ c.parameters) → IsTrue t ↔ ((q : Compound) × (slice_get compounds n ≡ Some q) × (kinds ≡ q.parameters))
compound_accepts compounds n c kinds t at same = (
  λ yes. (c, at, same.0 yes),
  λ other. same.1 (other.2 ∙ ap (λ (q : Compound). q.parameters) (some_is other.0 c (sym other.1 ∙ at))),
)

-- if no callable has a name, no compound has it
pub not_compound : (stored : Option Callable) (compound : Option ℕ) → option_or stored (option_map callables.Compound compound) ≡ None → compound ≡ None
not_compound None None none = refl
not_compound None (Some n) none = absurd cc
not_compound (Some x) compound none = absurd cc
