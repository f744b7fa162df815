use Rattle.addr2line_decompress.proofs.TableReads.{room_if_loaded}
use Rattle.addr2line_decompress.proofs.table.ImageTable.read.Goals as goal

pub returns-clause-room : goal.returns-clause-room
returns-clause-room c = room_if_loaded c.args.image.now c.read_headers.result c.read_headers.ensures
