use Rattle.web_requests.proofs.body.fault_body.Goals as goal

pub returns-in-SheetExists : goal.returns-in-SheetExists
returns-in-SheetExists c = rw c.in-SheetExists.is c.named_body-in-SheetExists.ensures

pub returns-in-NoSymbol : goal.returns-in-NoSymbol
returns-in-NoSymbol c = rw c.in-NoSymbol.is c.named_body-in-NoSymbol.ensures

pub returns-in-SymbolExists : goal.returns-in-SymbolExists
returns-in-SymbolExists c = rw c.in-SymbolExists.is c.named_body-in-SymbolExists.ensures

pub returns-in-OutOfRange : goal.returns-in-OutOfRange
returns-in-OutOfRange c = rw c.in-OutOfRange.is c.numbered_body-in-OutOfRange.ensures

pub returns-in-NotYours : goal.returns-in-NotYours
returns-in-NotYours c = rw c.in-NotYours.is c.named_body-in-NotYours.ensures

pub returns-in-UndoneAlready : goal.returns-in-UndoneAlready
returns-in-UndoneAlready c = rw c.in-UndoneAlready.is c.numbered_body-in-UndoneAlready.ensures

pub returns-in-SheetInUse : goal.returns-in-SheetInUse
returns-in-SheetInUse c = rw c.in-SheetInUse.is c.numbered_body-in-SheetInUse.ensures

pub returns-in-TooManyObjects : goal.returns-in-TooManyObjects
returns-in-TooManyObjects c = rw c.in-TooManyObjects.is c.named_body-in-TooManyObjects.ensures

pub returns-in-ProjectFull : goal.returns-in-ProjectFull
returns-in-ProjectFull c = rw c.in-ProjectFull.is c.named_body-in-ProjectFull.ensures

pub returns-in-HistoryFull : goal.returns-in-HistoryFull
returns-in-HistoryFull c = rw c.in-HistoryFull.is c.named_body-in-HistoryFull.ensures

pub returns-in-NoSuchEntry : goal.returns-in-NoSuchEntry
returns-in-NoSuchEntry c = rw c.in-NoSuchEntry.is c.named_body-in-NoSuchEntry.ensures

pub returns-in-NoAttribute : goal.returns-in-NoAttribute
returns-in-NoAttribute c = rw c.in-NoAttribute.is c.numbered_body-in-NoAttribute.ensures
