use Rattle.std.proofs.Common.{◌≡◌, ◌<◌, ◌∷◌, ◌++◌, [], List, length, get_or, set, sym, ◌∙◌, ap, subst, arith}
use Rattle.pw_info.specs.Information.{kind_of, meet}
use Rattle.pw_facts.specs.declared.fact.Fact.{Fact}
use Rattle.pw_cells.specs.inside.OneCell.{AreOfKind}
use Rattle.pw_cells.proofs.FactsBySupport.{GainOne}
use Rattle.pw_cells.proofs.ToldFacts.{kinds_first, kinds_last, told_before, told_after, told_there}
use Rattle.pw_cells.proofs.told_facts.ToldFacts.add.Given as given
use Rattle.pw_cells.proofs.told_facts.ToldFacts.add.Goals as goal

pub meet-info-requires : goal.meet-info-requires
meet-info-requires g c =
    let k = kind_of c.args.fact.now.info in
    let few = c.self.inside.few.items in
    let all = subst (AreOfKind k) (sym {A = List Fact} c.self.view_is) c.requires in
    let below : c.place_of-place.result < length few = omega (arith, c.if-place-len.true, c.len.ensures, c.as_slice.ensures.len, ap length c.as_slice.ensures.value) in
    ap kind_of c.info.ensures ∙ ap (λ (x : Fact). kind_of x.info) c.index.ensures
    ∙ kinds_last k c.self.inside.others few all c.place_of-place.result c.index.result.now below
    ∙ ap kind_of (sym c.info-then-place-len.ensures)

-- merged into the fact with the same support
there : (g : given.Over) (c : goal.After-self-1 g) → GainOne c.args.fact.now c.args.self.now (c.self.inside.others ++ set c.self.inside.few.items c.place_of-place.result c.on.result)
there g c =
    let fact = c.args.fact.now in
    let k = kind_of fact.info in
    let others = c.self.inside.others in
    let few = c.self.inside.few.items in
    let place = c.place_of-place.result in
    let old : Fact = c.index.result.now in
    let all = subst (AreOfKind k) (sym {A = List Fact} c.self.view_is) c.requires in
    let below : place < length few = omega (arith, c.if-place-len.true, c.len.ensures, c.as_slice.ensures.len, ap length c.as_slice.ensures.value) in
    let alike : old.support ≡ fact.support =
    ap (λ (x : Fact). x.support) (c.index.ensures ∙ ap (λ (l : List Fact). get_or l place old) (sym {A = List Fact} c.as_slice.ensures.value))
    ∙ c.place_of-place.ensures.same (omega (arith, below, ap length c.as_slice.ensures.value)) old
    ∙ c.support.ensures in
    subst (λ (l : List Fact). GainOne fact l (others ++ set few place c.on.result)) c.self.view_is
    (told_there fact others few place old c.on.result all below c.index.ensures alike
    (c.on.ensures.info ∙ c.meet-info.ensures.exact ∙ (λ j. meet (c.info.ensures j) (c.info-then-place-len.ensures j)))
    (c.on.ensures.support ∙ c.support-then-place-len.ensures))

pub returns-then-place-len-clause-kinds : goal.returns-then-place-len-clause-kinds
returns-then-place-len-clause-kinds g c = (there g c).kinds

pub returns-then-place-len-clause-shown : goal.returns-then-place-len-clause-shown
returns-then-place-len-clause-shown g c = (there g c).shown

pub add-requires : goal.add-requires
add-requires g c =
    let k = kind_of c.args.fact.now.info in
    kinds_first k c.self.inside.others c.self.inside.few.items (subst (AreOfKind k) (sym {A = List Fact} c.self.view_is) c.requires)

-- among the others
before : (g : given.Over) (c : goal.In_ok-add g) → GainOne c.args.fact.now c.args.self.now (c.add.new.self ++ c.self.inside.few.items)
before g c =
    let fact = c.args.fact.now in
    let k = kind_of fact.info in
    let others = c.self.inside.others in
    let few = c.self.inside.few.items in
    let all = subst (AreOfKind k) (sym {A = List Fact} c.self.view_is) c.requires in
    subst (λ (l : List Fact). GainOne fact l (c.add.new.self ++ few)) c.self.view_is
    (told_before fact others c.add.new.self few (kinds_last k others few all) (record { kinds = c.in_ok-add.ensures.kinds; shown = c.in_ok-add.ensures.shown }))

pub returns-then-len-ge-FEW-clause-kinds : goal.returns-then-len-ge-FEW-clause-kinds
returns-then-len-ge-FEW-clause-kinds g c = (before g c).kinds

pub returns-then-len-ge-FEW-clause-shown : goal.returns-then-len-ge-FEW-clause-shown
returns-then-len-ge-FEW-clause-shown g c = (before g c).shown

pub returns-clause-kinds : goal.returns-clause-kinds
returns-clause-kinds g c =
    let fact = c.args.fact.now in
    let k = kind_of fact.info in
    let others = c.self.inside.others in
    let few = c.self.inside.few.items in
    let all = subst (AreOfKind k) (sym {A = List Fact} c.self.view_is) c.requires in
    let last : c.append.new.facts.items ≡ few ++ fact ∷ [] =
    c.append.ensures.items
    ∙ (λ j. c.reserve_unless.ensures.items j ++ record { info = (c.on-2.ensures.info ∙ c.info-2.ensures) j; support = (c.on-2.ensures.support ∙ c.support-2.ensures) j } ∷ []) in
    (told_after fact others few c.append.new.facts.items all last).kinds
