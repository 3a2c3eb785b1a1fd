use Rattle.std.proofs.Common.{map}
use Rattle.client_frames.specs.Payloads.{IsFound, found_bytes}
use Rattle.client_frames.specs.Readings.{found_of, hit_at}
use Rattle.client_frames.proofs.Items.{HasRead}
use Rattle.client_frames.proofs.payloads.read_hits.Given as goal

abbrev pub invariant-hits : goal.invariant-hits
invariant-hits l = HasRead hit_at found_bytes IsFound l.initial.rest l.count l.left (map found_of l.hits.items) l.rest

abbrev pub decreases-hits : goal.decreases-hits
decreases-hits l = l.left
