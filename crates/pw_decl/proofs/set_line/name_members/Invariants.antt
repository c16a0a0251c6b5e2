use Rattle.std.proofs.Common.{◌≡◌, ◌++◌, true, length}
use Rattle.std.specs.List.{list_all}
use Rattle.pw_info.specs.Name.{is_name}
use Rattle.pw_decl.proofs.set_line.name_members.Given as goal

-- those that were added and the remaining ones are all, in order
abbrev pub invariant-loop-word : goal.invariant-loop-word
invariant-loop-word g l = record {
  all : l.fn.members ≡ l.table ++ l.members;
  named : list_all is_name l.members ≡ true;
}

abbrev pub decreases-loop-word : goal.decreases-loop-word
decreases-loop-word g l = length l.members
