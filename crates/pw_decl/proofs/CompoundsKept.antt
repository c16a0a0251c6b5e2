-- Lines only add: the procedures stay, and so do the compounds that were declared, with those that
-- are added after them.
use Rattle.std.proofs.Common.{◌≡◌, ℕ, List, [], ◌∷◌, ◌++◌, refl, sym, ap, ◌∙◌, subst, inl, inr, append-nil, append_assoc}
use Rattle.pw_decl.specs.Compound.{Compound}
use Rattle.pw_decl.specs.Declaration.{Declared, SoFar, BeforeHeader, Outside, Inside, DeclarationSentence, Header, User, Premise, PremiseOf, Set, Cell, Begin, Local, Call, End, with_compound, Makes}
use Rattle.pw_decl.specs.Faults.{Declares, Leads}

-- the procedures are the same, and compounds with their names may have been added
pub record OnlyAdds (old new : Declared) : Type 0 where
  pub procedures : new.procedures ≡ old.procedures
  pub later_names : List (List ℕ)
  pub names : new.compound_names ≡ old.compound_names ++ later_names
  pub later : List Compound
  pub compounds : new.compounds ≡ old.compounds ++ later

-- the declaration so far, at any place of the next line
abbrev pub declared_in : SoFar → Declared
declared_in (BeforeHeader d) = d
declared_in (Outside d) = d
declared_in (Inside d opened) = d

nothing_added : (old new : Declared) → new.procedures ≡ old.procedures → new.compound_names ≡ old.compound_names → new.compounds ≡ old.compounds → OnlyAdds old new
nothing_added old new procedures names compounds =
    record {
      procedures = procedures;
      later_names = [];
      names = names ∙ sym (append-nil old.compound_names);
      later = [];
      compounds = compounds ∙ sym (append-nil old.compounds);
    }

adds_none : (d : Declared) → OnlyAdds d d
adds_none d = nothing_added d d refl refl refl

adds_more : (a b c : Declared) → OnlyAdds a b → OnlyAdds b c → OnlyAdds a c
adds_more a b c first second =
    record {
      procedures = second.procedures ∙ first.procedures;
      later_names = first.later_names ++ second.later_names;
      names = second.names ∙ ap (λ (xs : List (List ℕ)). xs ++ second.later_names) first.names ∙ append_assoc a.compound_names first.later_names second.later_names;
      later = first.later ++ second.later;
      compounds = second.compounds ∙ ap (λ (xs : List Compound). xs ++ second.later) first.compounds ∙ append_assoc a.compounds first.later second.later;
    }

-- from this the sentence makes only more
abbrev AddsTo : SoFar → SoFar → Type 0
AddsTo so_far after = OnlyAdds (declared_in so_far) (declared_in after)

led_to : (so_far after made : SoFar) → AddsTo so_far made → after ≡ made → AddsTo so_far after
led_to so_far after made adds is = subst (AddsTo so_far) (sym is) adds

sentence_adds : (so_far : SoFar) (s : DeclarationSentence) (after : SoFar) → Makes so_far s after → AddsTo so_far after
sentence_adds (BeforeHeader d) (Header version) after is = led_to (BeforeHeader d) after _ (nothing_added d _ refl refl refl) is
sentence_adds (Outside d) (User name) after is = led_to (Outside d) after _ (nothing_added d _ refl refl refl) is
sentence_adds (Outside d) (Premise name) after is = led_to (Outside d) after _ (nothing_added d _ refl refl refl) is
sentence_adds (Outside d) (PremiseOf name user) after (owner, at, is) = led_to (Outside d) after _ (nothing_added d _ refl refl refl) is
sentence_adds (Outside d) (Set name members) after is = led_to (Outside d) after _ (nothing_added d _ refl refl refl) is
sentence_adds (Outside d) (Cell name word) after (kind, named, is) = led_to (Outside d) after _ (nothing_added d _ refl refl refl) is
sentence_adds (Outside d) (Begin name parameters) after (kinds, named, is) = led_to (Outside d) after _ (adds_none d) is
sentence_adds (Inside d opened) (Local name word) after (kind, named, is) = led_to (Inside d opened) after _ (adds_none d) is
sentence_adds (Inside d opened) (Call word arguments) after (callable, at, is) = led_to (Inside d opened) after _ (adds_none d) is
sentence_adds (Inside d opened) End after is =
    led_to (Inside d opened) after (Outside (with_compound d opened.name opened.compound))
    (record { procedures = refl; later_names = opened.name ∷ []; names = refl; later = opened.compound ∷ []; compounds = refl }) is
sentence_adds so_far s after makes = absurd makes

line_adds : (so_far : SoFar) (line : List ℕ) (after : SoFar) → Declares so_far line after → AddsTo so_far after
line_adds so_far line after (none, inl (idle, is)) = led_to so_far after so_far (adds_none (declared_in so_far)) is
line_adds so_far line after (none, inr (s, says, makes)) = sentence_adds so_far s after makes

-- lines only add
pub lines_add : (so_far : SoFar) (lines : List (List ℕ)) (after : SoFar) → Leads so_far lines after → OnlyAdds (declared_in so_far) (declared_in after)
lines_add so_far [] after is = led_to so_far after so_far (adds_none (declared_in so_far)) is
lines_add so_far (line ∷ lines) after (next, declares, leads) =
    adds_more (declared_in so_far) (declared_in next) (declared_in after) (line_adds so_far line next declares) (lines_add next lines after leads)
