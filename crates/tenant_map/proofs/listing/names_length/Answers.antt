use Rattle.std.proofs.Common.{length, ap, arith}
use Rattle.std.specs.Map.{keys_of}
use Rattle.tenant_map.specs.Kept.{texts}
use Rattle.tenant_map.specs.Listings.{names_listed}
use Rattle.tenant_map.proofs.Keeping.{listed_short}
use Rattle.tenant_map.proofs.listing.names_length.Goals as goal

pub loop-name-init : goal.loop-name-init
loop-name-init c =
    let all = c.args.documents.now.entries in
    record {
      same = omega (arith, ap (λ es. length (names_listed (keys_of (texts es)))) c.into_iter-name-iterator.ensures.into_iter_gives.0);
      all_short = omega (arith, listed_short all c.requires.kept, c.requires.few);
    }
