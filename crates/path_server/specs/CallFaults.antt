-- What is wrong with the lines of a call, as a fault of the call: this project's own.
use Rattle.path_server.specs.declared.text_lines.LinesFault.{LinesFault}
use Rattle.path_server.specs.declared.text_lines.LinesFault.TheVariants as lines
use Rattle.path_server.specs.declared.call_fault.CallFault.{CallFault}
use Rattle.path_server.specs.declared.call_fault.CallFault.TheVariants.{BadLine, Memory}

abbrev pub of_lines : LinesFault → CallFault
of_lines (lines.BadLine number) = BadLine number
of_lines lines.Memory = Memory
