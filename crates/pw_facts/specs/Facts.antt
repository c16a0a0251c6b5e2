-- What a supported value shows in a worldview, which one subsumes which, what the merge of two
-- rests on, and how much a larger or a smaller worldview knows.
use Rattle.std.specs.Prelude.{◌≡◌, ◌≢◌, true, if◌then◌else◌, List, [], ◌∷◌, filter}
use Rattle.std.specs.FinSet.{empty, union, is_subset}
use Rattle.pw_info.specs.declared.kind.Kind.{Kind}
use Rattle.pw_info.specs.declared.info.Info.{Info}
use Rattle.pw_info.specs.Information.{kind_of, meet, nothing, Implies}
use Rattle.pw_premises.specs.Premises.{Premises}
use Rattle.pw_facts.specs.declared.fact.Fact.{Fact}

-- in a worldview that has every premise of its support, a fact shows its information, and in any
-- other nothing
abbrev pub shows : Premises → Fact → Info
shows worldview fact = if is_subset fact.support worldview then fact.info else nothing
    (kind_of fact.info)

-- the first says at least as much as the second, and rests on no premise that the second does not
-- rest on
abbrev pub Subsumes : Fact → Fact → Type 0
Subsumes a b = Implies a.info b.info × (is_subset a.support b.support ≡ true)

-- the merge of two facts of one kind: it says what both say. If they say the same, it rests on the
-- support of the second if that is a subset of the support of the first, and otherwise on the
-- support of the first. If only one of them says what the merge says, it rests on the support of
-- that one. Otherwise it rests on both supports.
pub record IsMerge (a b merge : Fact) : Type 0 where
  pub info : merge.info ≡ meet a.info b.info
  pub same : a.info ≡ b.info → merge.support ≡
      (if is_subset b.support a.support then b.support else a.support)
  pub first : a.info ≢ b.info → merge.info ≡ a.info → merge.support ≡ a.support
  pub second : a.info ≢ b.info → merge.info ≡ b.info → merge.support ≡ b.support
  pub both : merge.info ≢ a.info → merge.info ≢ b.info → merge.support ≡ union a.support b.support

-- in every worldview that has the support of the third fact, the first two together show what the
-- third says
abbrev pub ShowTogether : Fact → Fact → Fact → Type 0
ShowTogether a b merge = (w : Premises) → is_subset merge.support w ≡ true →
    meet (shows w a) (shows w b) ≡ merge.info

-- no information of a kind, on no premise
abbrev pub nothing_known : Kind → Fact
nothing_known kind = record { info = nothing kind; support = empty }

-- merging these facts into the first, one after another, comes to the last
abbrev pub MergesTo : Fact → List Fact → Fact → Type 0
MergesTo first [] last = last ≡ first
MergesTo first (f ∷ fs) last = (merge : Fact) × IsMerge first f merge × MergesTo merge fs last

-- the facts whose premises are all in the worldview
abbrev pub visible_facts : Premises → List Fact → List Fact
visible_facts worldview facts = filter (λ f. is_subset f.support worldview) facts

-- a larger worldview knows at least as much
abbrev pub IsMonotone : (Premises → Info) → Type 0
IsMonotone known = (v w : Premises) → is_subset v w ≡ true → Implies (known w) (known v)

-- every worldview that has these premises knows at least this information
abbrev pub IsLeastAbove : Premises → (Premises → Info) → Info → Type 0
IsLeastAbove premises known info = (w : Premises) → is_subset premises w ≡ true →
    Implies (known w) info

-- every worldview inside this one knows at most this information
abbrev pub IsMostBelow : Premises → (Premises → Info) → Info → Type 0
IsMostBelow worldview known info = (w : Premises) → is_subset w worldview ≡ true →
    Implies info (known w)

-- facts that subsume each other are equal
abbrev pub SubsumptionIsAntisymmetric : Type 0
SubsumptionIsAntisymmetric =
    (a b : Fact) → kind_of a.info ≡ kind_of b.info → Subsumes a b →
    Subsumes b a → a ≡ b

-- two facts have one merge
abbrev pub OneMerge : Type 0
OneMerge =
    (a b m n : Fact) → kind_of a.info ≡ kind_of b.info → IsMerge a b m → IsMerge a b n →
    m ≡ n
