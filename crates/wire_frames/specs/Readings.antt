-- What the program's requests and their refusals stand for: this project's own.
use Rattle.std.specs.Prelude.{ℕ, List, Option, Result, Ok, Err}
use Rattle.std.specs.Option.{option_map}
use Rattle.wire_frames.specs.Requests as r
use Rattle.wire_frames.specs.Requests.{Asked, Reading}
use Rattle.wire_frames.specs.declared.requests.Request.{Request}
use Rattle.wire_frames.specs.declared.requests.Command.{Command}
use Rattle.wire_frames.specs.declared.requests.Command.TheVariants as c
use Rattle.wire_frames.specs.declared.requests.Place.{Place}
use Rattle.wire_frames.specs.declared.requests.RequestFault.{RequestFault}
use Rattle.wire_frames.specs.declared.requests.RequestFault.TheVariants as fault

abbrev pub asked_of : Command → Asked
asked_of (c.Put collection document text) = r.Put collection.bytes.now document.bytes.now text.now
asked_of (c.Get collection document) = r.Get collection.bytes.now document.bytes.now
asked_of (c.Remove collection document) = r.Remove collection.bytes.now document.bytes.now
asked_of (c.List collection) = r.ListNames collection.bytes.now
asked_of (c.Query collection query) = r.Query collection.bytes.now query.now
asked_of (c.DropCollection collection) = r.DropCollection collection.bytes.now
asked_of c.Usage = r.Usage
asked_of (c.PutNew collection document text) = r.PutNew collection.bytes.now document.bytes.now text.now

abbrev pub refusal : RequestFault → Reading
refusal (fault.Short number) = r.Short number
refusal (fault.BadCommand number key) = r.BadCommand number key
refusal (fault.BadFields number key) = r.BadFields number key

abbrev pub reading_of : Result Request RequestFault → Reading
reading_of (Ok request) = r.Asks request.number request.key (asked_of request.command)
reading_of (Err fault) = refusal fault

abbrev pub asked_by : Option Command → Option Asked
asked_by command = option_map asked_of command

abbrev pub place_of : Place → List ℕ × List ℕ × List ℕ
place_of p = (p.collection.bytes.now, p.document.bytes.now, p.rest.now)
