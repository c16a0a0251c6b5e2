-- The next line comes after the lines of all attachments.
use Rattle.std.proofs.Common.{◌≡◌, ℕ, ◌+◌, ◌<◌, List, [], ◌∷◌, All, fold, length, sym, subst, arith}
use Rattle.std.proofs.lemmas.List.Elements.{All-cons, All-nil, All-head, All-tail}
use Rattle.pw_decl.specs.Declaration.{Declared}
use Rattle.pw_network.specs.Network.{Network, bare, with_attached}
use Rattle.pw_sessions.specs.declared.command.Command.TheVariants as commands
use Rattle.pw_sessions.specs.Entries.{Entry, Told, Attached, entries_before, entries_from, line_of}
use Rattle.pw_sessions.specs.Reply.{LineReading, Says}
use Rattle.pw_sessions.specs.Workbench.{Workbench, IsLeftBy, with_entry}

-- the entries of lines are of lines that came
entries_below : (number next : ℕ) (readings : List LineReading) → number + length readings ≡ next → All (λ entry. line_of entry < next) (entries_from number readings)
entries_below number next [] at = All-nil (λ (entry : Entry). line_of entry < next)
entries_below number next (Says (commands.Tell user cell fact) ∷ readings) at =
    All-cons (λ (entry : Entry). line_of entry < next) (Told number cell fact) (entries_from (number + 1) readings) (omega (arith, at))
    (entries_below (number + 1) next readings (omega (arith, at)))
entries_below number next (Says (commands.Attach user callable cells support) ∷ readings) at =
    All-cons (λ (entry : Entry). line_of entry < next) (Attached number callable _ support) (entries_from (number + 1) readings) (omega (arith, at))
    (entries_below (number + 1) next readings (omega (arith, at)))
entries_below number next (reading ∷ readings) at = entries_below (number + 1) next readings (omega (arith, at))

-- so is the last attachment of the network that they make
last_below : (network : Network) (entries : List Entry) (next : ℕ) → network.last_line < next → All (λ entry. line_of entry < next) entries →
    (fold with_entry network entries).last_line < next
last_below network [] next here below = here
last_below network (Told line cell fact ∷ entries) next here below =
    last_below network entries next here (All-tail (λ (entry : Entry). line_of entry < next) (Told line cell fact) entries below)
last_below network (Attached line callable cells support ∷ entries) next here below =
    last_below (with_attached network line callable cells support) entries next
    (All-head (λ (entry : Entry). line_of entry < next) (Attached line callable cells support) entries below)
    (All-tail (λ (entry : Entry). line_of entry < next) (Attached line callable cells support) entries below)

-- the next line comes after the last attachment
pub next_left : (d : Declared) (readings : List LineReading) (bench : Workbench) → IsLeftBy d readings bench →
    bench.network.last_line < length readings + 1
next_left d readings bench left =
    subst (λ (n : Network). n.last_line < length readings + 1) (sym left.network)
    (last_below (bare d) (entries_before readings) (length readings + 1) (omega arith) (entries_below 1 (length readings + 1) readings (omega arith)))
