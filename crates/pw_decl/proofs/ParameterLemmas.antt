-- The parameters of a compound: alternating names and kinds.
use Rattle.std.proofs.Common.{◌≡◌, ◌↔◌, ℕ, refl, sym, ap, ◌∙◌, true, false, List, [], ◌∷◌, ◌++◌, Option, None, Some, Bool, ◌&&◌, append_assoc, subst, Result, Ok, Err}
use Rattle.std.proofs.lemmas.Bool.{false≢true}
use Rattle.pw_info.specs.Name.{is_name}
use Rattle.pw_info.specs.Words.{is_nil}
use Rattle.pw_decl.specs.inside.Forms.{are_parameters}
use Rattle.std.specs.Prelude.{IfSome, IfErr, IsSome, OnOk, is_some}
use Rattle.pw_info.specs.declared.kind.Kind.{Kind}
use Rattle.pw_decl.specs.Declaration.{Declared, NamesKind, NameKinds}

-- ---- words that name kinds

-- each of the words names a kind
abbrev pub HaveKinds : Declared → List (List ℕ) → Type 0
HaveKinds d words = (kinds : List Kind) × NameKinds d words kinds

-- if the first names a kind, all do if the others do
pub have_kinds-cons : (d : Declared) (word : List ℕ) (words : List (List ℕ)) (kind : Kind) → NamesKind d word kind →
    HaveKinds d (word ∷ words) ↔ HaveKinds d words
have_kinds-cons d word words kind named = (rest_named, λ rest. (kind ∷ rest.0, (named, rest.1)))
  where
    rest_named : HaveKinds d (word ∷ words) → HaveKinds d words
    rest_named ([], all) = absurd all
    rest_named (first ∷ kinds, all) = (kinds, all.1)

-- if the first names no kind, not all do
pub have_kinds-not : (d : Declared) (word : List ℕ) (words : List (List ℕ)) → ((kind : Kind) → NamesKind d word kind → ⊥) → HaveKinds d (word ∷ words) → ⊥
have_kinds-not d word words none ([], all) = all
have_kinds-not d word words none (first ∷ kinds, all) = none first all.0

-- the kinds so far and those that are named next are the kinds of all
pub chosen_more : (d : Declared) (word : List ℕ) (words all : List (List ℕ)) (kind : Kind) (kinds more : List Kind) → NamesKind d word kind →
    more ≡ kinds ++ kind ∷ [] → ((rest : List Kind) → NameKinds d (word ∷ words) rest → NameKinds d all (kinds ++ rest)) →
    (rest : List Kind) → NameKinds d words rest → NameKinds d all (more ++ rest)
chosen_more d word words all kind kinds more named is chosen rest others =
    rw (is, append_assoc kinds (kind ∷ []) rest) (chosen (kind ∷ rest) (named, others))

-- the names so far and the remaining ones are all, also with one more
pub names_more : (all names more rest : List (List ℕ)) (name : List ℕ) → all ≡ names ++ name ∷ rest → more ≡ names ++ name ∷ [] → all ≡ more ++ rest
names_more all names more rest name is added = rw (added, append_assoc names (name ∷ []) rest) is

-- two lists that are the same stay so with one more
pub both_more : (olds twins news others : List Kind) (kind : Kind) → olds ≡ twins → news ≡ olds ++ kind ∷ [] → others ≡ twins ++ kind ∷ [] → news ≡ others
both_more olds twins news others kind same more more' = more ∙ ap (λ (kinds : List Kind). kinds ++ kind ∷ []) same ∙ sym more'

-- ---- words that are alternating names and kinds

pub and_right : (a b : Bool) → (a && b) ≡ true → b ≡ true
and_right true b both = both
and_right false b both = absurd (false≢true both)

pub parameters_rest : (name kind : List ℕ) (words : List (List ℕ)) → are_parameters (name ∷ kind ∷ words) ≡ true → are_parameters words ≡ true
parameters_rest name kind words all = and_right (is_name name) (are_parameters words) all

-- ---- what a clause says about a value that exists, and of none

pub at_some : {X : Type 0} (o : Option X) {P : X → Type 0} → is_some o ≡ true → IfSome o P → (x : X) × P x
at_some None there p = absurd (cc)
at_some (Some x) there p = (x, p)

-- what is not there, is none
pub none_where : {X : Type 0} (o p : Option X) → is_some o ≡ false → o ≡ p → p ≡ None
none_where None p absent is = sym is
none_where (Some x) p absent is = absurd (cc)

pub none_there : {X : Type 0} (o : Option X) → (IsSome o → ⊥) → o ≡ None
none_there None none = refl
none_there (Some x) none = absurd (none refl)

-- words that are none, by what a test found
pub nil_where : (words : List (List ℕ)) → is_nil words ≡ true → words ≡ []
nil_where [] there = refl
nil_where (word ∷ words) there = absurd (false≢true there)

-- ---- what a clause says about a result that is known

pub at_ok : {U E P : Type 0} (r s : Result U E) (u : U) → s ≡ r → s ≡ Ok u → OnOk r P → P
at_ok {U} {E} {P} r s u same is ok = subst (λ (r : Result U E). OnOk r P) (sym same ∙ is) ok

pub at_err : {U E : Type 0} (P : E → Type 0) (r s : Result U E) (e : E) → s ≡ r → s ≡ Err e → IfErr r P → P e
at_err {U} {E} P r s e same is err = subst (λ (r : Result U E). IfErr r P) (sym same ∙ is) err
