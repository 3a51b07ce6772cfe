-- The number of every refusal, and the value that it carries beside the number, if any.
use Rattle.std.specs.Prelude.{ℕ, Some, None, Option}
use Rattle.refusal.specs.declared.Detail.{Detail}
use Rattle.refusal.specs.declared.Detail.TheVariants.{Record, Needed, LostBy}
use Rattle.refusal.specs.declared.TableFault.{TableFault}
use Rattle.refusal.specs.declared.TableFault.TheVariants.{Size, Broken}
use Rattle.refusal.specs.declared.ScanFault.{ScanFault}
use Rattle.refusal.specs.declared.ScanFault.TheVariants.{Lost, WrongPhase}
use Rattle.refusal.specs.declared.Refusal.{Refusal}
use Rattle.refusal.specs.declared.Refusal.TheVariants.{Table, CutShort, NoInstrument, AlreadyChosen, NothingChosen, DataLength, TooSmall, Scan, NotStatement, DigitCount, GroupTooLong, BadReply}

abbrev pub table_number : TableFault → ℕ
table_number Size = 1
table_number (Broken n) = 2

abbrev pub scan_number : ScanFault → ℕ
scan_number (Lost l) = 9
scan_number WrongPhase = 14

abbrev pub refusal_number : Refusal → ℕ
refusal_number (Table f) = table_number f
refusal_number CutShort = 3
refusal_number NoInstrument = 4
refusal_number AlreadyChosen = 5
refusal_number NothingChosen = 6
refusal_number DataLength = 7
refusal_number (TooSmall needed) = 8
refusal_number (Scan f) = scan_number f
refusal_number NotStatement = 10
refusal_number DigitCount = 11
refusal_number GroupTooLong = 12
refusal_number BadReply = 13

abbrev pub table_detail : TableFault → Option Detail
table_detail Size = None
table_detail (Broken n) = Some (Record n)

abbrev pub scan_detail : ScanFault → Option Detail
scan_detail (Lost l) = Some (LostBy l)
scan_detail WrongPhase = None

abbrev pub refusal_detail : Refusal → Option Detail
refusal_detail (Table f) = table_detail f
refusal_detail CutShort = None
refusal_detail NoInstrument = None
refusal_detail AlreadyChosen = None
refusal_detail NothingChosen = None
refusal_detail DataLength = None
refusal_detail (TooSmall needed) = Some (Needed needed)
refusal_detail (Scan f) = scan_detail f
refusal_detail NotStatement = None
refusal_detail DigitCount = None
refusal_detail GroupTooLong = None
refusal_detail BadReply = None
