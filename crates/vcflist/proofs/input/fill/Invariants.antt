-- From read to read what was kept stands, and `end` bytes are held; the measure is how much room is left. Assumes nothing.
use Rattle.std.proofs.Common.{length, ◌-◌, ◌≡◌, ◌≤◌, take}
use Rattle.vcflist.proofs.input.fill.Given as goal

abbrev pub invariant-loop-end : goal.invariant-loop-end
invariant-loop-end g l =
    (length l.buffer ≡ length l.initial.buffer) × (take l.kept l.buffer ≡ take l.kept l.initial.buffer) × (l.kept ≤ l.end)
    × (l.kept ≤ length l.initial.buffer → l.end ≤ length l.initial.buffer)

abbrev pub decreases-loop-end : goal.decreases-loop-end
decreases-loop-end g l = length l.buffer - l.end
