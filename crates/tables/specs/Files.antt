-- The tables of files that were read: the lines of a circuit's and of a schedule's, and the table with its header.
use Rattle.std.specs.Prelude.{List}
use Rattle.model.specs.declared.Line.{Line}
use Rattle.text.specs.Tables.{Table}
use Rattle.tables.specs.Records.{lines_held, held}
use Rattle.tables.specs.declared.files.CircuitTable.{CircuitTable}
use Rattle.tables.specs.declared.files.ListingTable.{ListingTable}
use Rattle.tables.specs.declared.files.ScheduleTable.{ScheduleTable}

abbrev pub circuit_lines : CircuitTable → List Line
circuit_lines t = lines_held t.records.now t.count

abbrev pub schedule_lines : ScheduleTable → List Line
schedule_lines t = lines_held t.records.now t.count

abbrev pub circuit_held : CircuitTable → Table
circuit_held t = held t.header t.records.now t.count

abbrev pub schedule_held : ScheduleTable → Table
schedule_held t = held t.header t.records.now t.count

abbrev pub listing_lines : ListingTable → List Line
listing_lines t = lines_held t.records.now t.count

abbrev pub listing_held : ListingTable → Table
listing_held t = held t.header t.records.now t.count
