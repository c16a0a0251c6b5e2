-- The reply to a line is the reply to the same line of a text in which every line is empty that it
-- does not rest on.
use Rattle.std.proofs.Common.{◌≡◌, ℕ, zero, suc, ◌+◌, Bool, true, false, List, [], ◌∷◌, ◌++◌, length, take, drop, Option, Some, slice_get, Contains, refl, sym, ap, ◌∙◌, subst, append-nil, append_assoc, arith}
use Rattle.std.proofs.Math.Seq.{drop-append_seam, take-append_seam}
use Rattle.pw_info.specs.Lines.{lines_of}
use Rattle.pw_decl.specs.Declaration.{Declared}
use Rattle.pw_decl.specs.WellDeclared.{IsWellDeclared}
use Rattle.pw_sessions.specs.Reply.{Reply}
use Rattle.pw_sessions.specs.Reply as reply
use Rattle.pw_sessions.specs.declared.reply.Refusal.TheVariants as refusal
use Rattle.pw_premises.specs.Premises.{Premises}
use Rattle.pw_sessions.specs.Answer.{replies_after, reply_to, user_of}
use Rattle.pw_sessions.specs.Blanking.{all_blank, blanked_for, blanked_from, kept_if, rests_on, tried_from, tried_in}
use Rattle.pw_sessions.specs.Reply.{LineReading, Blank, Refused, Says}
use Rattle.pw_sessions.proofs.BlankedLines.{reply-blanked}
use Rattle.pw_transcript.specs.FromScratch.{GetReplies, ReadAs}
use Rattle.pw_transcript.specs.Isolation.{BeginsWith, IsReplyAt, RestsOn, all_empty, emptied_for, emptied_from, kept_or_empty}
use Rattle.pw_transcript.specs.Reading.{Reads}
use Rattle.pw_transcript.proofs.ReadingLemmas.{one_reading}

-- ---- lists in two parts

-- there is only one way to cut a list after a number of elements
same_front : (xs ys zs ws : List (List ℕ)) → length xs ≡ length zs → xs ++ ys ≡ zs ++ ws → xs ≡ zs
same_front xs ys zs ws long same =
    sym (take-append_seam xs ys) ∙ ap (λ n. take n (xs ++ ys)) long ∙ ap (take (length zs)) same ∙ take-append_seam zs ws

same_end : (xs ys zs ws : List (List ℕ)) → length xs ≡ length zs → xs ++ ys ≡ zs ++ ws → ys ≡ ws
same_end xs ys zs ws long same =
    sym (drop-append_seam xs ys) ∙ ap (λ n. drop n (xs ++ ys)) long ∙ ap (drop (length zs)) same ∙ drop-append_seam zs ws

same_first : (x y : List ℕ) (xs ys : List (List ℕ)) → x ∷ xs ≡ y ∷ ys → x ≡ y
same_first x y xs ys same = cc

-- ---- readings of lines

-- each line has one
length-ReadAs : (d : Declared) (lines : List (List ℕ)) (readings : List LineReading) → ReadAs d lines readings → length lines ≡ length readings
length-ReadAs d [] [] read = refl
length-ReadAs d (line ∷ lines) (reading ∷ readings) read = ap suc (length-ReadAs d lines readings read.1)
length-ReadAs d [] (reading ∷ readings) read = absurd read
length-ReadAs d (line ∷ lines) [] read = absurd read

-- and they have one list of readings
one_list : (d : Declared) (lines : List (List ℕ)) (some others : List LineReading) → IsWellDeclared d → ReadAs d lines some → ReadAs d lines others → some ≡ others
one_list d [] [] [] well read read' = refl
one_list d (line ∷ lines) (some ∷ somes) (other ∷ others) well read read' =
    ap (λ r. r ∷ somes) (one_reading d line some other well read.0 read'.0)
    ∙ ap (λ rs. other ∷ rs) (one_list d lines somes others well read.1 read'.1)
one_list d [] (some ∷ somes) others well read read' = absurd read
one_list d [] [] (other ∷ others) well read read' = absurd read'
one_list d (line ∷ lines) [] others well read read' = absurd read
one_list d (line ∷ lines) (some ∷ somes) [] well read read' = absurd read'

-- an empty line is blank
empty_reads : (d : Declared) → Reads d [] Blank
empty_reads d = (omega arith, refl)

-- a line, made empty or not, reads as it did or is blank
kept_reads : (d : Declared) (keeps : Bool) (line : List ℕ) (reading : LineReading) → Reads d line reading →
    Reads d (kept_or_empty keeps line) (kept_if keeps reading)
kept_reads d true line reading reads = reads
kept_reads d false line reading reads = empty_reads d

-- so do lines
from_read : (d : Declared) (user : ℕ) (last : Premises) (before : List LineReading) (lines : List (List ℕ)) (readings : List LineReading) → ReadAs d lines readings →
    ReadAs d (emptied_from d user last before lines readings) (blanked_from d user last before readings)
from_read d user last before [] [] read = tt
from_read d user last before (line ∷ lines) (reading ∷ readings) read = (
  kept_reads d (rests_on user (tried_from d user (before ++ reading ∷ []) readings ++ last ∷ []) reading) line reading read.0,
  from_read d user last (before ++ reading ∷ []) lines readings read.1,
)
from_read d user last before [] (reading ∷ readings) read = absurd read
from_read d user last before (line ∷ lines) [] read = absurd read

all_read : (d : Declared) (lines : List (List ℕ)) (readings : List LineReading) → ReadAs d lines readings → ReadAs d (all_empty lines) (all_blank readings)
all_read d [] [] read = tt
all_read d (line ∷ lines) (reading ∷ readings) read = (empty_reads d, all_read d lines readings read.1)
all_read d [] (reading ∷ readings) read = absurd read
all_read d (line ∷ lines) [] read = absurd read

emptied_read : (d : Declared) (readings : List LineReading) (reading : LineReading) (lines : List (List ℕ)) → ReadAs d lines readings →
    ReadAs d (emptied_for d readings reading lines) (blanked_for d readings reading)
emptied_read d readings (Says command) lines read = from_read d (user_of command) (tried_in d readings command) [] lines readings read
emptied_read d readings Blank lines read = all_read d lines readings read
emptied_read d readings (Refused refused) lines read = all_read d lines readings read

-- there are as many
length-from : (d : Declared) (user : ℕ) (last : Premises) (before : List LineReading) (lines : List (List ℕ)) (readings : List LineReading) → ReadAs d lines readings →
    length (emptied_from d user last before lines readings) ≡ length lines
length-from d user last before [] [] read = refl
length-from d user last before (line ∷ lines) (reading ∷ readings) read = ap suc (length-from d user last (before ++ reading ∷ []) lines readings read.1)
length-from d user last before [] (reading ∷ readings) read = absurd read
length-from d user last before (line ∷ lines) [] read = absurd read

length-all : (lines : List (List ℕ)) → length (all_empty lines) ≡ length lines
length-all [] = refl
length-all (line ∷ lines) = ap suc (length-all lines)

length-emptied : (d : Declared) (readings : List LineReading) (reading : LineReading) (lines : List (List ℕ)) → ReadAs d lines readings →
    length (emptied_for d readings reading lines) ≡ length lines
length-emptied d readings (Says command) lines read = length-from d (user_of command) (tried_in d readings command) [] lines readings read
length-emptied d readings Blank lines read = length-all lines
length-emptied d readings (Refused refused) lines read = length-all lines

-- ---- replies

module _ (d : Declared) (well : IsWellDeclared d) (number : ℕ) where
  -- what lines before, a line and what comes after them make of a reply
  reply_found : (text : List ℕ) (answer : Option Reply) (before after : List (List ℕ)) (line : List ℕ) (readings : List LineReading) (reading : LineReading) →
      lines_of text ≡ before ++ line ∷ after → length before + 1 ≡ number → ReadAs d before readings → Reads d line reading →
      IsReplyAt d text number answer → answer ≡ reply_to d readings reading
  reply_found text answer before after line readings reading parts at read reads (found, is) =
      let long : length found.before ≡ length before = omega (arith, found.number_is, at) in
      let same = sym found.parts ∙ parts in
      let fronts : found.before ≡ before = same_front found.before (found.line ∷ found.after) before (line ∷ after) long same in
      let lines : found.line ≡ line =
      same_first found.line line found.after after (same_end found.before (found.line ∷ found.after) before (line ∷ after) long same) in
      let all : found.readings ≡ readings =
      one_list d before found.readings readings well (subst (λ (l : List (List ℕ)). ReadAs d l found.readings) fronts found.read) read in
      let one : found.reading ≡ reading =
      one_reading d line found.reading reading well (subst (λ (l : List ℕ). Reads d l found.reading) lines found.reads) reads in
      is ∙ ap (λ (rs : List LineReading). reply_to d rs found.reading) all ∙ ap (reply_to d readings) one

  -- a line of a text has one reply
  pub one_reply : (text : List ℕ) (a b : Option Reply) → IsReplyAt d text number a → IsReplyAt d text number b → a ≡ b
  one_reply text a b is (at, other) =
      reply_found text a at.before at.after at.line at.readings at.reading at.parts at.number_is at.read at.reads is ∙ sym other

  -- the reply to a line of which the reply rests on these lines, in a text that begins with them
  rested : (text blanked : List ℕ) (lines : List (List ℕ)) (answer : Option Reply) (rests : RestsOn d text number lines) → BeginsWith blanked lines →
      IsReplyAt d blanked number answer → answer ≡ reply_to d rests.0.readings rests.0.reading
  rested text blanked lines answer (at, are) (after, begins) is =
      let front : List (List ℕ) = emptied_for d at.readings at.reading at.before in
      let parts : lines_of blanked ≡ front ++ at.line ∷ after =
      begins ∙ ap (λ (l : List (List ℕ)). l ++ after) are ∙ append_assoc front (at.line ∷ []) after in
      reply_found blanked answer front after at.line (blanked_for d at.readings at.reading) at.reading parts
      (omega (arith, length-emptied d at.readings at.reading at.before at.read, at.number_is))
      (emptied_read d at.readings at.reading at.before at.read) at.reads is
      ∙ reply-blanked d at.readings at.reading

  -- it is the reply to the line
  pub same_reply : (text blanked : List ℕ) (lines : List (List ℕ)) (a b : Option Reply) → RestsOn d text number lines → BeginsWith blanked lines →
      IsReplyAt d text number a → IsReplyAt d blanked number b → a ≡ b
  same_reply text blanked lines a b (at, are) begins is other =
      reply_found text a at.before at.after at.line at.readings at.reading at.parts at.number_is at.read at.reads is
      ∙ sym (rested text blanked lines b (at, are) begins other)

  -- the reply to a line by the lines that it rests on
  by_lines : (text : List ℕ) (lines : List (List ℕ)) (answer : Option Reply) (rests : RestsOn d text number lines) → IsReplyAt d text number answer →
      answer ≡ reply_to d (blanked_for d rests.0.readings rests.0.reading) rests.0.reading
  by_lines text lines answer (at, are) is =
      reply_found text answer at.before at.after at.line at.readings at.reading at.parts at.number_is at.read at.reads is
      ∙ sym (reply-blanked d at.readings at.reading)

  -- two texts that agree in what the replies rest on have equal ones
  pub agreeing : (one other : List ℕ) (lines : List (List ℕ)) (a b : Option Reply) → RestsOn d one number lines → RestsOn d other number lines →
      IsReplyAt d one number a → IsReplyAt d other number b → a ≡ b
  agreeing one other lines a b (at, are) (at', are') is is' =
      let front : List (List ℕ) = emptied_for d at.readings at.reading at.before in
      let front' : List (List ℕ) = emptied_for d at'.readings at'.reading at'.before in
      let long : length front ≡ length front' =
      omega (arith, length-emptied d at.readings at.reading at.before at.read, length-emptied d at'.readings at'.reading at'.before at'.read, at.number_is, at'.number_is) in
      let same = sym are ∙ are' in
      let fronts : front ≡ front' = same_front front (at.line ∷ []) front' (at'.line ∷ []) long same in
      let line : at.line ≡ at'.line = same_first at.line at'.line [] [] (same_end front (at.line ∷ []) front' (at'.line ∷ []) long same) in
      let reading : at.reading ≡ at'.reading =
      one_reading d at'.line at.reading at'.reading well (subst (λ (l : List ℕ). Reads d l at.reading) line at.reads) at'.reads in
      let readings : blanked_for d at.readings at.reading ≡ blanked_for d at'.readings at'.reading =
      one_list d front' (blanked_for d at.readings at.reading) (blanked_for d at'.readings at'.reading) well
      (subst (λ (l : List (List ℕ)). ReadAs d l (blanked_for d at.readings at.reading)) fronts (emptied_read d at.readings at.reading at.before at.read))
      (emptied_read d at'.readings at'.reading at'.before at'.read) in
      by_lines one lines a (at, are) is
      ∙ ap (λ (rs : List LineReading). reply_to d rs at.reading) readings
      ∙ ap (reply_to d (blanked_for d at'.readings at'.reading)) reading
      ∙ sym (by_lines other lines b (at', are') is')

-- ---- the replies of a run

-- the reply at a place, with the lines and readings before it
pub record HasPlace (d : Declared) (before : List LineReading) (lines : List (List ℕ)) (at : ℕ) (answer : Option Reply) : Type 0 where
  pub front : List (List ℕ)
  pub line : List ℕ
  pub after : List (List ℕ)
  pub readings : List LineReading
  pub reading : LineReading
  pub parts : lines ≡ front ++ line ∷ after
  pub count : length front ≡ at
  pub read : ReadAs d front readings
  pub reads : Reads d line reading
  pub is : answer ≡ reply_to d (before ++ readings) reading

place_found : (d : Declared) (before : List LineReading) (lines : List (List ℕ)) (readings : List LineReading) (at : ℕ) (answer : Option Reply) →
    ReadAs d lines readings → slice_get (replies_after d before readings) at ≡ Some answer → HasPlace d before lines at answer
place_found d before [] [] at answer read here = absurd (cc)
place_found d before [] (reading ∷ readings) at answer read here = absurd read
place_found d before (line ∷ lines) [] at answer read here = absurd read
place_found d before (line ∷ lines) (reading ∷ readings) zero answer read here =
    record {
      front = [];
      line = line;
      after = lines;
      readings = [];
      reading = reading;
      parts = refl;
      count = refl;
      read = tt;
      reads = read.0;
      is = let e : reply_to d before reading ≡ answer = cc in sym e ∙ ap (λ (rs : List LineReading). reply_to d rs reading) (sym (append-nil before));
    }
place_found d before (line ∷ lines) (reading ∷ readings) (suc at) answer read here =
    let rest = place_found d (before ++ reading ∷ []) lines readings at answer read.1 here in
    record {
      front = line ∷ rest.front;
      line = rest.line;
      after = rest.after;
      readings = reading ∷ rest.readings;
      reading = rest.reading;
      parts = ap (λ (l : List (List ℕ)). line ∷ l) rest.parts;
      count = ap suc rest.count;
      read = (read.0, rest.read);
      reads = rest.reads;
      is = rest.is ∙ ap (λ (rs : List LineReading). reply_to d rs rest.reading) (append_assoc before (reading ∷ []) rest.readings);
    }

-- a line that came to be refused because memory ran out gets that reply
memory_told : (d : Declared) (before : List LineReading) (readings : List LineReading) → Contains readings (Refused refusal.Memory) →
    Contains (replies_after d before readings) (Some (reply.Refused refusal.Memory))
memory_told d before [] (at, within, is) = absurd (omega arith)
memory_told d before (reading ∷ readings) (zero, within, is) = (zero, omega arith, ap (reply_to d before) is)
memory_told d before (reading ∷ readings) (suc at, within, is) =
    let (place, inside, same) = memory_told d (before ++ reading ∷ []) readings (at, omega arith, is) in
    (suc place, omega arith, same)

-- if none was, the replies of a run are those from scratch
pub replies_are : (d : Declared) (text : List ℕ) (replies : List (Option Reply)) (at : ℕ) (answer : Option Reply) → GetReplies d (lines_of text) replies →
    (Contains replies (Some (reply.Refused refusal.Memory)) → ⊥) → slice_get replies at ≡ Some answer → IsReplyAt d text (at + 1) answer
replies_are d text replies at answer get none here =
    let plain : Contains get.readings (Refused refusal.Memory) → ⊥ =
    λ found. none (subst (λ (rs : List (Option Reply)). Contains rs (Some (reply.Refused refusal.Memory))) (sym get.replies_are) (memory_told d [] get.readings found)) in
    let place = place_found d [] (lines_of text) get.readings at answer (get.plain plain) (ap (λ (rs : List (Option Reply)). slice_get rs at) (sym get.replies_are) ∙ here) in (
      record {
        before = place.front;
        line = place.line;
        after = place.after;
        readings = place.readings;
        reading = place.reading;
        parts = place.parts;
        number_is = ap (λ n. n + 1) place.count;
        read = place.read;
        reads = place.reads;
      },
      place.is,
    )
