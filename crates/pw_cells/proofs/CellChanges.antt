-- The same change of the same cell by the same fact.
use Rattle.std.proofs.Common.{◌≡◌, sym, ap, subst}
use Rattle.std.specs.Prelude.{Result, Ok, Err, OnOk, OnErr}
use Rattle.pw_facts.specs.declared.fact.Fact.{Fact}
use Rattle.pw_cells.specs.Cells.{Cell}
use Rattle.pw_cells.specs.inside.CellChanges.{IsNews, KeepsFact, TellsFact}

pub is_news_so : (fact held : Fact) (old cell : Cell) → cell ≡ old → held ≡ fact → IsNews fact old → IsNews held cell
is_news_so fact held old cell same is news =
    subst (λ (x : Cell). IsNews held x) (sym {A = Cell} same) (subst (λ (x : Fact). IsNews x old) (sym {A = Fact} is) news)

pub keeps_so : (fact held : Fact) (old cell new : Cell) → cell ≡ old → held ≡ fact → KeepsFact held cell new → KeepsFact fact old new
keeps_so fact held old cell new same is keeps =
    subst (λ (x : Cell). KeepsFact fact x new) same (subst (λ (x : Fact). KeepsFact x cell new) is keeps)

pub tells_so : (fact held : Fact) (old cell new : Cell) → cell ≡ old → held ≡ fact → TellsFact held cell new → TellsFact fact old new
tells_so fact held old cell new same is tells =
    subst (λ (x : Cell). TellsFact fact x new) same (subst (λ (x : Fact). TellsFact x cell new) is tells)

-- ---- of a result

pub on_ok : {T E : Type 0} (r : Result T E) {P Q : Type 0} → (P → Q) → OnOk r P → OnOk r Q
on_ok (Ok x) f p = f p
on_ok (Err e) f p = p

pub keeps_then : {T E : Type 0} (r : Result T E) (fact held : Fact) (old cell new : Cell) → cell ≡ old → held ≡ fact → OnOk r (KeepsFact held cell new)
    → OnOk r (KeepsFact fact old new)
keeps_then r fact held old cell new same is = on_ok r (keeps_so fact held old cell new same is)

pub tells_then : {T E : Type 0} (r : Result T E) (fact held : Fact) (old cell new : Cell) → cell ≡ old → held ≡ fact → OnOk r (TellsFact held cell new)
    → OnOk r (TellsFact fact old new)
tells_then r fact held old cell new same is = on_ok r (tells_so fact held old cell new same is)

pub still_then : {T E : Type 0} (r : Result T E) (old cell new : Cell) → cell ≡ old → OnErr r (new ≡ cell) → OnErr r (new ≡ old)
still_then r old cell new same = subst (λ (x : Cell). OnErr r (new ≡ cell) → OnErr r (new ≡ x)) same (λ e. e)

-- a success and a failure both leave what was told, and the kind
pub still_told : {T E : Type 0} (r : Result T E) (fact : Fact) (old new : Cell) → OnOk r (KeepsFact fact old new) → OnErr r (new ≡ old) → new.told ≡ old.told
still_told (Ok x) fact old new keeps same = keeps.told
still_told (Err e) fact old new keeps same = ap (λ (x : Cell). x.told) same

pub still_kind : {T E : Type 0} (r : Result T E) (fact : Fact) (old new : Cell) → OnOk r (KeepsFact fact old new) → OnErr r (new ≡ old) → new.kind ≡ old.kind
still_kind (Ok x) fact old new keeps same = keeps.kind
still_kind (Err e) fact old new keeps same = ap (λ (x : Cell). x.kind) same
