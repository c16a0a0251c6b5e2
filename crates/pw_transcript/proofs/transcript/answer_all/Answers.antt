use Rattle.std.proofs.Common.{◌≡◌, ◌+◌, ◌<◌, ◌≤◌, ℕ, true, List, [], ◌++◌, length, take, drop, length-take-le, refl, sym, ap, ◌∙◌, subst, arith}
use Rattle.std.proofs.lemmas.List.{take-append-le}
use Rattle.pw_decl.specs.inside.Fields.{declared}
use Rattle.pw_transcript.specs.inside.Running.{progress}
use Rattle.pw_transcript.specs.Limits.{most_bytes, most_at_once}
use Rattle.pw_transcript.specs.inside.Gathering.{GatheredPasses, GatheredPasses-joins}
use Rattle.pw_transcript.specs.inside.Running.{AnsweredSoFar}
use Rattle.pw_transcript.proofs.RunParts.{kept_whole, kept_all, kept_size, length_taken, length_kept}
use Rattle.pw_transcript.proofs.RunLemmas.{SoFar-still, SoFar-ended_lines, LimitSoFar-still, PassesAll-still, PassesAll-front, flush_failed}
use Rattle.pw_transcript.proofs.RunEnds.{replies_in_part, replies_in_part_at_end, replies_up_to_line, replies_up_to_byte, taken_no_more}
use Rattle.pw_transcript.proofs.transcript.answer_all.Given as given
use Rattle.pw_transcript.proofs.transcript.answer_all.Goals as goal
use Rattle.pw_transcript.proofs.transcript.answer_all.Goals.{After-feed, After-end}

pub loop-taken-init : goal.loop-taken-init
loop-taken-init g c = record {
  bytes = [];
  taken = g.met.I.Input.none c.args.input.now;
  so_far = c.requires.start;
  count = refl;
  bound = omega arith;
  passed_on = c.requires.empty;
  running = c.requires.running;
}

-- the take failed
pub returns-in-Err-clause-read : goal.returns-in-Err-clause-read
returns-in-Err-clause-read g c = λ _.
    let inv = c.loop-taken.invariant in
    record {
      bytes = inv.bytes;
      taken = taken_no_more g.I.Input.takes g.met.I.Input.joins _ _ _ inv.bytes inv.taken c.in-Err.ensures.taken;
      within = record { lines = inv.so_far.few; bytes = omega (arith, inv.count, inv.bound) };
      passed = SoFar-ended_lines (GatheredPasses g.O.Output.passes) (declared c.args.declaration.now) _ _ (progress c.loop-taken.so_far) inv.bytes inv.so_far;
    }

-- ---- a chunk

-- After `bytes` a take gave `taken` bytes, at the front of its buffer `new`. Of the chunk, which is
-- that buffer and `rest`, the first `kept` bytes are fed.
record Chunk {I : Type 0} (takes : I → List ℕ → I → Type 0) (i i' : I) (bytes new rest : List ℕ) (kept taken : ℕ) : Type 0 where
  within : taken ≤ length new
  below : kept ≤ taken
  all : takes i (bytes ++ take taken new) i'
  most : length (bytes ++ take taken new) ≤ most_bytes + 1
  at_once : length (take kept (new ++ rest)) + length (drop kept (take taken new)) ≤ most_at_once
  parts : (bytes ++ take kept (new ++ rest)) ++ drop kept (take taken new) ≡ bytes ++ take taken new

chunk : (g : given.Over) (c : After-feed g) → Chunk g.I.Input.takes c.args.input.now c.take.new.self
    c.loop-taken.invariant.bytes c.take.new.buffer (drop c.min-room.result c.loop-taken.chunk) c.min-kept.result c.in-Ok.taken
chunk g c =
    let inv = c.loop-taken.invariant in
    let new = c.take.new.buffer in
    let rest = drop c.min-room.result c.loop-taken.chunk in
    let kept = c.min-kept.result in
    let taken = c.in-Ok.taken in
    let within : taken ≤ length new = c.in-Ok.ensures.taken.0 in
    let room : c.min-room.result ≤ length c.loop-taken.chunk = omega (arith, c.min-room.ensures) in
    let size : length new ≤ c.min-room.result = omega (arith, c.take.auto.buffer, length-take-le c.min-room.result c.loop-taken.chunk room) in
    let below : kept ≤ taken = omega (arith, c.min-kept.ensures) in
    record {
      within = within;
      below = below;
      all = g.met.I.Input.joins _ _ _ inv.bytes (take taken new) inv.taken c.in-Ok.ensures.taken.1;
      most = omega (arith, length_taken inv.bytes new taken within);
      at_once = omega (arith, kept_size new rest kept taken below within);
      parts = kept_whole inv.bytes new rest kept taken below within;
    }

pub returns-in-Err-feed-clause-write : goal.returns-in-Err-feed-clause-write
returns-in-Err-feed-clause-write g c = λ _.
    let inv = c.loop-taken.invariant in
    let last = chunk g (goal.at.returns-in-Err-feed-clause-write g c).After-feed in
    replies_in_part g.I.Input.takes _ _ g.I.Input.has_ended _ _ _ _ _ _ _ last.all last.most last.parts (c.in-Err-feed.ensures.err _ inv.bytes inv.so_far)

pub returns-in-Err-flush-clause-write : goal.returns-in-Err-flush-clause-write
returns-in-Err-flush-clause-write g c = λ _.
    let inv = c.loop-taken.invariant in
    let last = chunk g (goal.at.returns-in-Err-flush-clause-write g c).After-feed in
    replies_in_part g.I.Input.takes _ _ g.I.Input.has_ended _ _ _ _ _ _ _ last.all last.most last.parts
    (flush_failed _ _ (GatheredPasses-joins g.O.Output.passes g.met.O.Output.joins) _ _ _ (progress c.feed.new.self) inv.bytes _ c.in-Ok-feed.fed
    (λ e. c.in-Ok-feed.ensures.whole e _ inv.bytes inv.so_far) (λ e. c.in-Ok-feed.ensures.limit e _ inv.bytes inv.so_far) c.flush.ensures.passed)

-- a byte after the last line that is answered
pub returns-in-PastLimit-clause-limit : goal.returns-in-PastLimit-clause-limit
returns-in-PastLimit-clause-limit g c = λ _.
    let inv = c.loop-taken.invariant in
    let last = chunk g (goal.at.returns-in-PastLimit-clause-limit g c).After-feed in
    replies_up_to_line g.I.Input.takes _ _ _ _ _ _ inv.bytes _ _ _ last.all last.most last.at_once last.parts
    (LimitSoFar-still _ _ (GatheredPasses-joins g.O.Output.passes g.met.O.Output.joins) _ _ _ inv.bytes _
    (c.in-Ok-feed.ensures.limit c.in-PastLimit.is _ inv.bytes inv.so_far) c.flush.ensures.passed)

-- a byte after the last one that is answered
pub returns-then-kept-taken-clause-limit : goal.returns-then-kept-taken-clause-limit
returns-then-kept-taken-clause-limit g c = λ _.
    let inv = c.loop-taken.invariant in
    let last = chunk g (goal.at.returns-then-kept-taken-clause-limit g c).After-feed in
    let full : length inv.bytes + c.min-kept.result ≡ most_bytes = omega (arith, inv.count, inv.bound, c.min-kept.ensures) in
    let count = length_taken inv.bytes c.take.new.buffer c.in-Ok.taken last.within in
    replies_up_to_byte g.I.Input.takes _ _ _ _ _ _ (progress c.feed.new.self) _ _ _ last.all last.parts
    (length_kept inv.bytes c.take.new.buffer _ c.min-kept.result (omega (arith, last.within, last.below)) ∙ full) (omega (arith, full, count, last.most))
    (SoFar-still _ _ (GatheredPasses-joins g.O.Output.passes g.met.O.Output.joins) _ _ _ (progress c.feed.new.self) _
    (c.in-Ok-feed.ensures.whole c.in-Whole.is _ inv.bytes inv.so_far) c.flush.ensures.passed)

pub loop-taken-preserved : goal.loop-taken-preserved
loop-taken-preserved g c =
    let inv = c.loop-taken.invariant in
    let last = chunk g (goal.at.loop-taken-preserved g c).After-feed in
    let same : c.min-kept.result ≡ c.in-Ok.taken = omega (arith, last.below) in
    record {
      bytes = inv.bytes ++ take c.in-Ok.taken c.take.new.buffer;
      taken = last.all;
      so_far = subst (AnsweredSoFar (GatheredPasses g.O.Output.passes) (declared c.args.declaration.now) _ _ _)
          (kept_all inv.bytes c.take.new.buffer _ c.min-kept.result c.in-Ok.taken same last.within)
          (SoFar-still _ _ (GatheredPasses-joins g.O.Output.passes g.met.O.Output.joins) _ _ _ (progress c.feed.new.self) _
          (c.in-Ok-feed.ensures.whole c.in-Whole.is _ inv.bytes inv.so_far) c.flush.ensures.passed);
      count = length_taken inv.bytes c.take.new.buffer c.in-Ok.taken last.within ∙ ap (λ n. n + c.in-Ok.taken) inv.count;
      bound = omega (arith, same, inv.bound, c.min-kept.ensures);
      passed_on = c.in-Ok-flush.ensures.ok;
      running = c.in-Ok-feed.ensures.running;
    }

-- ---- the end

-- the last take gave nothing: the bytes so far are all, and the input has ended
no_more : (g : given.Over) (c : After-end g) →
    g.I.Input.takes c.args.input.now c.loop-taken.invariant.bytes c.take.new.self × (g.I.Input.has_ended c.take.new.self ≡ true)
no_more g c =
    let inv = c.loop-taken.invariant in
    let nothing : take c.in-Ok.taken c.take.new.buffer ≡ [] = ap (λ n. take n c.take.new.buffer) c.if-taken-eq0.true in
    let room : 0 < length c.take.new.buffer =
    omega (arith, c.take.auto.buffer, length-take-le c.min-room.result c.loop-taken.chunk (omega arith), c.min-room.ensures, inv.bound) in (
      taken_no_more g.I.Input.takes g.met.I.Input.joins _ _ _ inv.bytes inv.taken
          (subst (λ (l : List ℕ). g.I.Input.takes c.loop-taken.input l c.take.new.self) nothing c.in-Ok.ensures.taken.1),
      c.in-Ok.ensures.ended room c.if-taken-eq0.true,
    )

pub returns-in-Err-end-clause-write : goal.returns-in-Err-end-clause-write
returns-in-Err-end-clause-write g c = λ _.
    let inv = c.loop-taken.invariant in
    let end = no_more g (goal.at.returns-in-Err-end-clause-write g c).After-end in
    replies_in_part_at_end g.I.Input.takes _ _ g.I.Input.has_ended _ _ _ _ inv.bytes end.0 (omega (arith, inv.count, inv.bound)) end.1
    (c.in-Err-end.ensures.err _ inv.bytes inv.so_far)

pub returns-in-Ok-flush-2-clause-ok : goal.returns-in-Ok-flush-2-clause-ok
returns-in-Ok-flush-2-clause-ok g c =
    let inv = c.loop-taken.invariant in
    record {
      bytes = inv.bytes;
      taken = (no_more g (goal.at.returns-in-Ok-flush-2-clause-ok g c).After-end).0;
      within = record { lines = inv.so_far.few; bytes = omega (arith, inv.count, inv.bound) };
      passed = PassesAll-still _ _ (GatheredPasses-joins g.O.Output.passes g.met.O.Output.joins) _ _ _ c.end.new.self.counts inv.bytes
          (c.in-Ok-end.ensures.ok _ inv.bytes inv.so_far) c.flush-2.ensures.passed;
    }

pub returns-in-Err-flush-2-clause-write : goal.returns-in-Err-flush-2-clause-write
returns-in-Err-flush-2-clause-write g c = λ _.
    let inv = c.loop-taken.invariant in
    let end = no_more g (goal.at.returns-in-Err-flush-2-clause-write g c).After-end in
    replies_in_part_at_end g.I.Input.takes _ _ g.I.Input.has_ended _ _ _ _ inv.bytes end.0 (omega (arith, inv.count, inv.bound)) end.1
    (PassesAll-front _ _ _ _ c.end.new.self.counts inv.bytes inv.so_far.few
    (PassesAll-still _ _ (GatheredPasses-joins g.O.Output.passes g.met.O.Output.joins) _ _ _ c.end.new.self.counts inv.bytes
    (c.in-Ok-end.ensures.ok _ inv.bytes inv.so_far) c.flush-2.ensures.passed))

-- ---- what `search` no longer finds

pub slice_bounds-take-end : goal.slice_bounds-take-end
slice_bounds-take-end g c = sym (length-take-le c.min-room.result c.loop-taken.chunk (omega arith))

pub slice_bounds-feed-end : goal.slice_bounds-feed-end
slice_bounds-feed-end g c =
    let within : c.in-Ok.taken ≤ length c.take.new.buffer = c.in-Ok.ensures.taken.0 in
    let kept : c.min-kept.result ≤ length c.take.new.buffer = omega (arith, within, c.min-kept.ensures) in
    sym (ap length (take-append-le c.min-kept.result c.take.new.buffer (drop c.min-room.result c.loop-taken.chunk) kept) ∙ length-take-le c.min-kept.result c.take.new.buffer kept)

pub returns-in-Ok-flush-2-clause-ended : goal.returns-in-Ok-flush-2-clause-ended
returns-in-Ok-flush-2-clause-ended g c = c.in-Ok.ensures.ended
    (omega (arith, c.take.auto.buffer, length-take-le c.min-room.result c.loop-taken.chunk (omega arith), c.min-room.ensures, c.loop-taken.invariant.bound)) c.if-taken-eq0.true

pub returns-in-Ok-flush-2-clause-nothing_left : goal.returns-in-Ok-flush-2-clause-nothing_left
returns-in-Ok-flush-2-clause-nothing_left g c = c.in-Ok.ensures.nothing_left
    (omega (arith, c.take.auto.buffer, length-take-le c.min-room.result c.loop-taken.chunk (omega arith), c.min-room.ensures, c.loop-taken.invariant.bound)) c.if-taken-eq0.true
