-- Told facts, the first few in a list: what they show together, and what one more fact changes.
use Rattle.std.proofs.Common.{◌≡◌, ℕ, ◌+◌, ◌-◌, ◌<◌, false, List, [], ◌∷◌, ◌++◌, length, get_or, set, take, length-append, sym, ◌∙◌, ap, subst, arith}
use Rattle.std.specs.Prelude.{fold}
use Rattle.std.specs.FinSet.{is_subset}
use Rattle.std.proofs.lemmas.List.{take_more, get_or_append_left, get_or-append_right, set-append_right, append_assoc}
use Rattle.std.proofs.lemmas.List.Elements.{All-append, All-head, All-tail, All-set}
use Rattle.std.proofs.lemmas.List.Sums.{fold-append, fold_push}
use Rattle.pw_info.specs.declared.kind.Kind.{Kind}
use Rattle.pw_info.specs.declared.info.Info.{Info}
use Rattle.pw_info.specs.Information.{kind_of, meet, nothing}
use Rattle.pw_info.proofs.Informations.{kind-meet, meet_assoc, meet_comm, meet_nothing}
use Rattle.pw_premises.specs.Premises.{Premises}
use Rattle.pw_facts.specs.declared.fact.Fact.{Fact}
use Rattle.pw_facts.specs.Facts.{shows}
use Rattle.pw_facts.proofs.Shown.{kind-shows, shows-unsupported}
use Rattle.pw_cells.specs.Cells.{shown_by}
use Rattle.pw_cells.specs.inside.OneCell.{AreOfKind}
use Rattle.pw_cells.proofs.FactsBySupport.{GainOne}
use Rattle.pw_cells.proofs.Together.{with_shown, kind-shown_by, kinds-push, shown-met, shown-push}

-- what the first facts show from an information on, and one more
pub merged_next : (w : Premises) (i : Info) (facts : List Fact) (place : ℕ) (fact : Fact) → place < length facts → fact ≡ get_or facts place fact
    → fold (with_shown w) i (take (place + 1) facts) ≡ meet (fold (with_shown w) i (take place facts)) (shows w fact)
merged_next w i facts place fact below is =
    ap (fold (with_shown w) i) (take_more facts place fact below ∙ ap (λ f. take place facts ++ f ∷ []) (sym is))
    ∙ fold_push (with_shown w) i (take place facts) fact

-- a fact that is not visible adds nothing
pub adds_nothing : (w : Premises) (i : Info) (fact : Fact) → kind_of fact.info ≡ kind_of i → is_subset fact.support w ≡ false → meet i (shows w fact) ≡ i
adds_nothing w i fact is hidden = ap (meet i) (shows-unsupported w fact hidden ∙ ap nothing is) ∙ meet_nothing i

-- what facts show from an information on that is merged with another
merged_from_both : (w : Premises) (i s : Info) (facts : List Fact) → kind_of s ≡ kind_of i → AreOfKind (kind_of i) facts
    → fold (with_shown w) (meet i s) facts ≡ meet (fold (with_shown w) i facts) s
merged_from_both w i s [] same all = λ j. meet i s
merged_from_both w i s (f ∷ fs) same all =
    let here : kind_of f.info ≡ kind_of i = All-head (λ (x : Fact). kind_of x.info ≡ kind_of i) f fs all in
    let shown : kind_of (shows w f) ≡ kind_of i = kind-shows w f ∙ here in
    let rest : AreOfKind (kind_of (meet i (shows w f))) fs =
    subst (λ (k : Kind). AreOfKind k fs) (sym (kind-meet i (shows w f))) (All-tail (λ (x : Fact). kind_of x.info ≡ kind_of i) f fs all) in
    ap (λ (j : Info). fold (with_shown w) j fs) (
    meet_assoc i s (shows w f) (sym same) (same ∙ sym shown)
    ∙ ap (meet i) (meet_comm s (shows w f) (same ∙ sym shown))
    ∙ sym (meet_assoc i (shows w f) s (sym shown) (shown ∙ sym same)))
    ∙ merged_from_both w (meet i (shows w f)) s fs (same ∙ sym (kind-meet i (shows w f))) rest

-- the facts of either part are of the kind of all
pub kinds_first : (k : Kind) (others few : List Fact) → AreOfKind k (others ++ few) → AreOfKind k others
kinds_first k others few all j d below =
    ap (λ (x : Fact). kind_of x.info) (sym (get_or_append_left others few d j below)) ∙ all j d (omega (arith, below, length-append others few))

pub kinds_last : (k : Kind) (others few : List Fact) → AreOfKind k (others ++ few) → AreOfKind k few
kinds_last k others few all j d below =
    let at = length others + j in
    let off : at - length others ≡ j = omega arith in
    ap (λ (x : Fact). kind_of x.info) (
    ap (λ n. get_or few n d) (sym off) ∙ sym (get_or-append_right others few (length others) at d (λ i. length others) (omega arith)))
    ∙ all at d (omega (arith, below, length-append others few))

-- ---- one more fact

-- among the others
pub told_before : (fact : Fact) (others others' few : List Fact) → AreOfKind (kind_of fact.info) few → GainOne fact others others'
    → GainOne fact (others ++ few) (others' ++ few)
told_before fact others others' few kinds gain =
    let k = kind_of fact.info in
    record {
      kinds = All-append (λ (x : Fact). kind_of x.info ≡ k) others' few gain.kinds kinds;
      shown = λ w.
          let start = kind-shown_by k w others in
          fold-append (with_shown w) (nothing k) others' few
          ∙ ap (λ (i : Info). fold (with_shown w) i few) (gain.shown w)
          ∙ merged_from_both w (shown_by k w others) (shows w fact) few (kind-shows w fact ∙ sym start) (subst (λ (kind : Kind). AreOfKind kind few) (sym start) kinds)
          ∙ ap (λ (i : Info). meet i (shows w fact)) (sym (fold-append (with_shown w) (nothing k) others few));
    }

-- after all
pub told_after : (fact : Fact) (others few few' : List Fact) → AreOfKind (kind_of fact.info) (others ++ few) → few' ≡ few ++ fact ∷ []
    → GainOne fact (others ++ few) (others ++ few')
told_after fact others few few' kinds is =
    let k = kind_of fact.info in
    let after : others ++ few' ≡ (others ++ few) ++ fact ∷ [] = ap (λ l. others ++ l) is ∙ sym (append_assoc others few (fact ∷ [])) in
    subst (GainOne fact (others ++ few)) (sym {A = List Fact} after) (record {
      kinds = kinds-push k (others ++ few) fact kinds (λ j. k);
      shown = λ w. shown-push k w (others ++ few) fact;
    })

-- under the support of one of the last
pub told_there : (fact : Fact) (others few : List Fact) (place : ℕ) (old new : Fact) → AreOfKind (kind_of fact.info) (others ++ few) → place < length few
    → old ≡ get_or few place old → old.support ≡ fact.support → new.info ≡ meet old.info fact.info → new.support ≡ fact.support
    → GainOne fact (others ++ few) (others ++ set few place new)
told_there fact others few place old new kinds below is alike info support =
    let k = kind_of fact.info in
    let at = length others + place in
    let within : at < length (others ++ few) = omega (arith, below, length-append others few) in
    let off : at - length others ≡ place = omega arith in
    let read : old ≡ get_or (others ++ few) at old =
    is ∙ ap (λ n. get_or few n old) (sym off) ∙ sym (get_or-append_right others few (length others) at old (λ j. length others) (omega arith)) in
    let written : set (others ++ few) at new ≡ others ++ set few place new =
    set-append_right others few (length others) at new (λ j. length others) (omega arith) ∙ ap (λ n. others ++ set few n new) off in
    let old_kind : kind_of old.info ≡ k = subst (λ (x : Fact). kind_of x.info ≡ k) (sym read) (kinds at old within) in
    subst (GainOne fact (others ++ few)) {x = set (others ++ few) at new} written (record {
      kinds = All-set (λ (x : Fact). kind_of x.info ≡ k) (others ++ few) at new (ap kind_of info ∙ kind-meet old.info fact.info ∙ old_kind) kinds;
      shown = λ w. shown-met k w (others ++ few) at old fact new kinds (λ j. k) within read alike info (support ∙ sym alike);
    })
