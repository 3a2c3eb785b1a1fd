-- A text that is read a share at a time.
use Rattle.std.specs.Prelude.{◌≤◌, ◌<◌, ◌^◌, ℕ, List, length, IsUtf8}
use Rattle.structural_index.specs.Answer.{IsIndexOf}
use Rattle.structural_index.specs.declared.answer.Index.{Index}
use Rattle.json_text.specs.Answer.{IsJson, StandsForAll}
use Rattle.json_text.specs.Verdict.{text_limit, IsFaultless}
use Rattle.json_text.specs.declared.tape.BuildFault.{BuildFault}
use Rattle.json_text.specs.declared.tape.BuildFault.TheVariants as build
use Rattle.json_text.specs.declared.tape.TextFault.{TextFault}
use Rattle.json_text.specs.declared.tape.TextFault.TheVariants.{NotJson, Memory}
use Rattle.json_text.specs.declared.tape.Entry.{Entry}
use Rattle.name_order.specs.Ordered.{AreKept}
use Rattle.name_order.specs.declared.orders.NameOrder.{NameOrder}
use Rattle.name_stamps.specs.declared.seen.SeenNames.{SeenNames}
use Rattle.json_walk.specs.UnderWay.{IsUnderWay}
use Rattle.json_walk.specs.declared.second_stage.Way.{Way}

-- the text, and how many places of its index are left
pub record ReadShare : Type 0 where
  pub text : List ℕ
  pub left : ℕ

-- what a text without a fault is kept with
abbrev pub IsKept : List ℕ → List Entry → NameOrder → Type 0
IsKept text tape names = IsJson text × StandsForAll text tape × (length tape < 2 ^ 31) × IsFaultless text × AreKept text tape (length tape) names

abbrev pub fault_is : BuildFault → TextFault
fault_is build.NotJson = NotJson
fault_is build.Memory = Memory

-- the text is UTF-8 and not too long, and the walk over its places is under way
abbrev pub IsRead : (text : List ℕ) → Index → SeenNames → Way → Type 0
IsRead text index seen way = (length text ≤ text_limit) × IsUtf8 text × IsIndexOf index text × ((before : ℕ) × (now : ℕ) × IsUnderWay text index before now seen way)
