-- What `explain` prints of the faulty lines of a declaration: a block for each.
use Rattle.std.specs.Prelude.{◌≡◌, ◌⊎◌, ◌++◌, [], List, ℕ, Bool, Option, false, true}
use Rattle.std.specs.Borrow.{Bor}
use Rattle.pw_info.specs.Lines.{lines_of}
use Rattle.pw_procs.specs.Procedure.{Procedure}
use Rattle.pw_decl.specs.declared.decl_fault.DeclFault.{DeclFault}
use Rattle.pw_decl.specs.Faults.{IsReported}
use Rattle.pw_explain.specs.declared.cut.Cut.{Cut}
use Rattle.pw_explain.specs.declared.spot.Spot.{Spot}
use Rattle.pw_explain.specs.Cut.{HasNoLine, IsCutAt, is_header}
use Rattle.pw_explain.specs.Explanation.{SaysExpected, ShowsLine}
use Rattle.pw_explain.specs.Unread.{DropsLine, IsLeftOf, Left, WasKept}
use Rattle.workbench.specs.Ending.{IsDeclaration}

-- the text goes on with the line as it is shown, and marks under what is at fault in it; and what was
-- expected there, with the nearest name if one is near
pub record ShowsFault (line old new : List ℕ) : Type 0 where
  pub spot : Spot
  pub shown : List ℕ
  pub shows : ShowsLine line spot old shown
  pub near : Option (Bor (List ℕ))
  pub says : SaysExpected near shown new

-- the block shows the line of this number, after a title
pub record ShowsLineAt (text : List ℕ) (number : ℕ) (block : List ℕ) : Type 0 where
  pub cut : Cut
  pub at : IsCutAt text number cut
  pub title : List ℕ
  pub shows : ShowsFault cut.line.now title block

-- the text has no line of this number, and the block says what was expected, after a title
pub record ShowsNoLine (text : List ℕ) (number : ℕ) (block : List ℕ) : Type 0 where
  pub none : HasNoLine text number
  pub title : List ℕ
  pub near : Option (Bor (List ℕ))
  pub says : SaysExpected near title block

-- the block is that of the line of this number, whether or not the text has such a line
abbrev pub IsBlockAt : List ℕ → ℕ → List ℕ → Type 0
IsBlockAt text number block = ShowsLineAt text number block ⊎ ShowsNoLine text number block

-- the blocks go on with that of the line of this number
pub record AddsBlock (text : List ℕ) (number : ℕ) (old new : List ℕ) : Type 0 where
  pub block : List ℕ
  pub is : IsBlockAt text number block
  pub joined : new ≡ old ++ block

-- the line of this number is the header, or it is not
pub record HasLineAt (text : List ℕ) (number : ℕ) (header : Bool) : Type 0 where
  pub cut : Cut
  pub at : IsCutAt text number cut
  pub is : is_header (lines_of cut.before.now) cut.line.now ≡ header

-- what is left of the text, as one text
abbrev pub text_left : Left → List ℕ
text_left left = left.front ++ left.rest

-- the blocks of the first faults of a text, each found after the lines of those before were dropped, and
-- what is left of the text then
pub data AreBlocks (procedures : List Procedure) (whole : List ℕ) : List ℕ → Left → Type 0 where
  NoBlock : {left : Left} → IsLeftOf whole left → text_left left ≡ whole
      → AreBlocks procedures whole [] left
  OneMore : {old new : List ℕ} {left next : Left} (fault : DeclFault)
      → AreBlocks procedures whole old left → IsReported procedures (text_left left) fault
      → AddsBlock (text_left left) fault.line old new
      → HasLineAt (text_left left) fault.line false → DropsLine fault.line left next
      → AreBlocks procedures whole new next

-- no line after that of this number is read: it is the header, the text has no such line, or the line was
-- kept when others were dropped
abbrev pub EndsAt : Left → ℕ → Type 0
EndsAt left number = HasLineAt (text_left left) number true
    ⊎ (HasNoLine (text_left left) number ⊎ WasKept number left)

-- what is printed of a text: such blocks, after which nothing that is left is faulty; or such blocks, and
-- that of a fault at which reading ends
pub data Explains (procedures : List Procedure) (whole : List ℕ) : List ℕ → Type 0 where
  ToTheEnd : {blocks : List ℕ} {left : Left} → AreBlocks procedures whole blocks left
      → IsDeclaration procedures (text_left left) → Explains procedures whole blocks
  UpTo : {old new : List ℕ} {left : Left} (fault : DeclFault)
      → AreBlocks procedures whole old left → IsReported procedures (text_left left) fault
      → AddsBlock (text_left left) fault.line old new → EndsAt left fault.line
      → Explains procedures whole new

-- the same, where memory may have run out before
pub data ExplainsPart (procedures : List Procedure) (whole : List ℕ) : List ℕ → Type 0 where
  AsFar : {blocks : List ℕ} {left : Left} → AreBlocks procedures whole blocks left
      → ExplainsPart procedures whole blocks
  AndOne : {old new : List ℕ} {left : Left} (fault : DeclFault)
      → AreBlocks procedures whole old left → IsReported procedures (text_left left) fault
      → AddsBlock (text_left left) fault.line old new → ExplainsPart procedures whole new
