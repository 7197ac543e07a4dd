use Rattle.std.proofs.Common.{refl}
use Rattle.std.proofs.lemmas.Option.{slice_get_read}
use Rattle.audit_cmd.specs.Reading.{audit_causes, IsKeptOf}
use Rattle.audit_cmd.proofs.PlaceLaws.{put_read, reads_at}
use Rattle.audit_cmd.proofs.books.read_at.Goals as goal

pub returns : goal.returns
returns g c =
    let before = c.args.books.now.items in
    let there = slice_get_read before _ c.args.place c.remove-disk.result refl c.requires.there c.remove-disk.ensures.value in
    let put = put_read before _ _ c.args.place c.said_of-disk.result.0 _ c.requires.there c.remove-disk.ensures.items c.in-Ok.ensures.items c.said_of-disk.ensures.disk in
    rw c.said_of-disk.ensures.said (reads_at g.D.Disk.disk g.D.Disk.disk_moved audit_causes IsKeptOf c.args.place before _ c.remove-disk.result c.read_book.result (record { moves = c.read_book.ensures.moved; only = c.read_book.ensures.read; reads = c.read_book.ensures.exact; counts = c.read_book.ensures.fault }) there put)
