-- What a host asks of the workbench, and the replies that it gets.
use Rattle.std.specs.Prelude.{◌≡◌, ◌<◌, List, [], ◌∷◌, length}
use Rattle.std.specs.FinSet.{difference, empty}
use Rattle.pw_premises.specs.Premises.{Premises}
use Rattle.pw_procs.specs.Registry.{cells_of}
use Rattle.pw_decl.specs.Declaration.{Declared}
use Rattle.pw_sessions.specs.declared.command.Command.TheVariants as commands
use Rattle.pw_sessions.specs.Reply.{Reply}
use Rattle.pw_sessions.specs.Reply as reply
use Rattle.pw_sessions.specs.Values.{cell_value, visible_in}
use Rattle.pw_sessions.specs.Beliefs.{all_premises}
use Rattle.pw_sessions.specs.Entries.{Entry, Told, Attached}
use Rattle.pw_sessions.specs.Reply.{Says}
use Rattle.pw_sessions.specs.Command.{IsDeclared}
use Rattle.pw_uses.specs.declared.host.Matter.{Matter}

-- there are two users, and what the matter names is declared
pub record IsOfDeclared (d : Declared) (matter : Matter) : Type 0 where
  pub users : 1 < length d.users
  pub attached : IsDeclared d (Says (commands.Attach 0 matter.callable matter.cells empty))
  pub told : IsDeclared d (Says (commands.Tell 1 matter.told matter.fact))
  pub asked : matter.asked < length d.cells

-- what both made: line 1 attached, and line 2 told
abbrev pub entries_in : Matter → List Entry
entries_in matter = Attached 1 matter.callable (cells_of matter.cells) empty ∷ Told 2 matter.told
    matter.fact ∷ []

-- what follows at the cell that is asked for, to one who believes this
abbrev pub value_for : Declared → Matter → Premises → Reply
value_for d matter beliefs = reply.Value (cell_value d (visible_in (entries_in matter) beliefs)
    matter.asked)

-- the replies to the first user, who believes all premises but the doubted ones, and to the second,
-- who believes all
pub record AreReplies (d : Declared) (matter : Matter) (first second : Reply) : Type 0 where
  pub doubting : first ≡ value_for d matter (difference (all_premises d) matter.doubted)
  pub trusting : second ≡ value_for d matter (all_premises d)
