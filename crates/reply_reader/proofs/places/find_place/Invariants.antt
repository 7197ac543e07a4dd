use Rattle.std.proofs.Common.{map, take}
use Rattle.httparse.specs.Spans.{header_bytes}
use Rattle.millicent_http.specs.Fields.{values}
use Rattle.reply_reader.specs.Places.{Stands}
use Rattle.reply_reader.proofs.places.find_place.Given as goal

abbrev pub invariant-loop-field : goal.invariant-loop-field
invariant-loop-field l = Stands l.text (values l.name (map (header_bytes l.text) (take l.field-index l.fields))) l.found
