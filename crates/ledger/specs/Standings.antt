-- What an event makes of a standing, and where it is refused.
use Rattle.std.specs.Prelude.{Some, None, Option}
use Rattle.ledger.specs.declared.faults.SheetFault.{SheetFault}
use Rattle.ledger.specs.declared.faults.SheetFault.TheVariants.{Unread}
use Rattle.ledger.specs.declared.standing.Event.{Event}
use Rattle.ledger.specs.declared.standing.Event.TheVariants.{Edit, Settle, Bar, ReadRouting, ReadMarks}
use Rattle.ledger.specs.declared.standing.Standing.{Standing}
use Rattle.ledger.specs.declared.standing.Standing.TheVariants.{Open, Settled, Barred}

-- An edit opens the sheet, settling makes it stand settled or barred, and reading leaves it as it stands.
abbrev pub moved : Event → Standing → Standing
moved Edit standing = Open
moved Settle standing = Settled
moved Bar standing = Barred
moved ReadRouting standing = standing
moved ReadMarks standing = standing

-- Editing and settling go at any standing; a routing is there to be read only in a settled book, and marks only in a barred one.
abbrev pub unread : Event → Standing → Option SheetFault
unread Edit standing = None
unread Settle standing = None
unread Bar standing = None
unread ReadRouting Open = Some Unread
unread ReadRouting Settled = None
unread ReadRouting Barred = Some Unread
unread ReadMarks Open = Some Unread
unread ReadMarks Settled = Some Unread
unread ReadMarks Barred = None
