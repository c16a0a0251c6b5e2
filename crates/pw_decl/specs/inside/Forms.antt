-- The sentence that the words of a declaration line form, as a function.
use Rattle.std.specs.Prelude.{ℕ, Bool, true, false, ◌&&◌, List, [], ◌∷◌, Option, Some, None, codes}
use Rattle.std.specs.Prelude.{if◌then◌else◌}
use Rattle.std.specs.List.{list_all}
use Rattle.std.specs.Str.{bytes_eq}
use Rattle.pw_decl.specs.declared.sentence.OuterSentence.{OuterSentence}
use Rattle.pw_decl.specs.declared.sentence.OuterSentence.TheVariants as outer
use Rattle.pw_decl.specs.declared.sentence.InnerSentence.{InnerSentence}
use Rattle.pw_decl.specs.declared.sentence.InnerSentence.TheVariants as inner
use Rattle.pw_decl.specs.declared.version.Version.TheVariants as versions
use Rattle.pw_info.specs.Name.{is_name}
use Rattle.pw_decl.specs.Declaration.{DeclarationSentence, Header, User, Premise, PremiseOf, Set}
use Rattle.pw_decl.specs.Declaration.{Cell, Begin, Local, Call, End, SoFar, BeforeHeader, Outside}
use Rattle.pw_decl.specs.Declaration.{Inside}

-- the words after `workbench`
abbrev pub version_form : List (List ℕ) → Option DeclarationSentence
version_form (version ∷ []) =
    if bytes_eq version (codes "1") then Some (Header versions.One)
    else (if bytes_eq version (codes "2") then Some (Header versions.Two)
    else None)
version_form rest = None

-- the sentence that the words form before the header
abbrev pub header_form : List (List ℕ) → Option DeclarationSentence
header_form [] = None
header_form (verb ∷ rest) = if bytes_eq verb (codes "workbench") then version_form rest else None

-- the words after `user`
abbrev pub user_form : List (List ℕ) → Option DeclarationSentence
user_form (name ∷ []) = if is_name name then Some (User name) else None
user_form rest = None

-- the words after `premise`
abbrev pub premise_form : List (List ℕ) → Option DeclarationSentence
premise_form (name ∷ []) = if is_name name then Some (Premise name) else None
premise_form (name ∷ between ∷ user ∷ []) =
    if is_name name then (if bytes_eq between (codes "of") then Some (PremiseOf name user) else
    None) else None
premise_form rest = None

-- the words after `set`
abbrev pub set_form : List (List ℕ) → Option DeclarationSentence
set_form [] = None
set_form (name ∷ members) = if is_name name then
    (if list_all is_name members then Some (Set name members) else None) else None

-- the words after `cell`
abbrev pub cell_form : List (List ℕ) → Option DeclarationSentence
cell_form (name ∷ kind ∷ []) = if is_name name then Some (Cell name kind) else None
cell_form rest = None

-- alternating names and kinds
abbrev pub are_parameters : List (List ℕ) → Bool
are_parameters [] = true
are_parameters (name ∷ []) = false
are_parameters (name ∷ kind ∷ words) = is_name name && are_parameters words

-- the words after `compound`
abbrev pub compound_form : List (List ℕ) → Option DeclarationSentence
compound_form [] = None
compound_form (name ∷ parameters) = if is_name name then
    (if are_parameters parameters then Some (Begin name parameters) else None) else None

-- the sentence that the words form outside a compound
abbrev pub outer_sentence_of : List (List ℕ) → Option DeclarationSentence
outer_sentence_of [] = None
outer_sentence_of (verb ∷ rest) =
    if bytes_eq verb (codes "user") then user_form rest
    else (if bytes_eq verb (codes "premise") then premise_form rest
    else (if bytes_eq verb (codes "set") then set_form rest
    else (if bytes_eq verb (codes "cell") then cell_form rest
    else (if bytes_eq verb (codes "compound") then compound_form rest
    else None))))

-- the words after `local`
abbrev pub local_form : List (List ℕ) → Option DeclarationSentence
local_form (name ∷ kind ∷ []) = if is_name name then Some (Local name kind) else None
local_form rest = None

-- the words after `end`
abbrev pub end_form : List (List ℕ) → Option DeclarationSentence
end_form [] = Some End
end_form rest = None

-- the words after the name of a callable
abbrev pub call_form : List ℕ → List (List ℕ) → Option DeclarationSentence
call_form callable [] = None
call_form callable (word ∷ words) = Some (Call callable (word ∷ words))

-- the sentence that the words form inside a compound
abbrev pub inner_sentence_of : List (List ℕ) → Option DeclarationSentence
inner_sentence_of [] = None
inner_sentence_of (verb ∷ rest) =
    if bytes_eq verb (codes "local") then local_form rest
    else (if bytes_eq verb (codes "end") then end_form rest
    else call_form verb rest)

-- the sentence that the words form, at this place
abbrev pub sentence_at : SoFar → List (List ℕ) → Option DeclarationSentence
sentence_at (BeforeHeader d) words = header_form words
sentence_at (Outside d) words = outer_sentence_of words
sentence_at (Inside d opened) words = inner_sentence_of words

-- the sentence that the references spell
abbrev pub outer_in : OuterSentence → DeclarationSentence
outer_in (outer.User name) = User name.now
outer_in (outer.Premise name) = Premise name.now
outer_in (outer.PremiseOf name user) = PremiseOf name.now user.now
outer_in (outer.Set name members) = Set name.now members
outer_in (outer.Cell name kind) = Cell name.now kind.now
outer_in (outer.Compound name parameters) = Begin name.now parameters

abbrev pub inner_in : InnerSentence → DeclarationSentence
inner_in (inner.Local name kind) = Local name.now kind.now
inner_in (inner.Call callable arguments) = Call callable.now arguments
inner_in inner.End = End
