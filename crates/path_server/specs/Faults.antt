-- The refusals of the parts as refusals of the whole: this project's own.
use Rattle.json_text.specs.declared.tape.TextFault.{TextFault}
use Rattle.json_text.specs.declared.tape.TextFault.TheVariants as text
use Rattle.path_types.specs.declared.query_text.QueryFault.{QueryFault}
use Rattle.path_types.specs.declared.query_text.QueryFault.TheVariants as query
use Rattle.node_lists.specs.declared.fault.SelectFault.{SelectFault}
use Rattle.node_lists.specs.declared.fault.SelectFault.TheVariants as select
use Rattle.path_server.specs.declared.fault.QueryTextFault.{QueryTextFault}
use Rattle.path_server.specs.declared.fault.QueryTextFault.TheVariants.{TooLong, NotUtf8, NotJson, TooDeep, NumberLimit, LoneSurrogate, DuplicateName, QueryTooLong, NotWellFormed, NotValid, Costly, Memory}

abbrev pub of_text : TextFault → QueryTextFault
of_text text.TooLong = TooLong
of_text text.NotUtf8 = NotUtf8
of_text text.NotJson = NotJson
of_text text.TooDeep = TooDeep
of_text text.NumberLimit = NumberLimit
of_text text.LoneSurrogate = LoneSurrogate
of_text text.DuplicateName = DuplicateName
of_text text.Memory = Memory

abbrev pub of_query : QueryFault → QueryTextFault
of_query query.QueryTooLong = QueryTooLong
of_query query.NotWellFormed = NotWellFormed
of_query query.NotValid = NotValid
of_query query.Memory = Memory

abbrev pub of_select : SelectFault → QueryTextFault
of_select select.Costly = Costly
of_select select.Memory = Memory
