use mathlib.Core.Path.{refl}
use Rattle.xml_tokens.specs.Laws.Letters.{fit_all, fit_long, fit_late, fit_broken}
use Rattle.xml_tokens.proofs.Cursor.fit.Goals as goal

pub returns-in-Ok : goal.returns-in-Ok
returns-in-Ok c = fit_all _ _ _ c.misspelled.ensures _ c.in-Ok.is c.requires.2 c.if-to-at.true _ refl

pub returns-in-Err : goal.returns-in-Err
returns-in-Err c = fit_broken _ _ _ c.misspelled.ensures _ c.in-Err.is c.requires.2 c.if-n-room.true

pub returns-in_default : goal.returns-in_default
returns-in_default c = fit_long _ _ _ c.misspelled.ensures _ c.in-Ok.is c.if-to-at.false

pub returns-in_default-2 : goal.returns-in_default-2
returns-in_default-2 c = fit_late _ _ _ c.misspelled.ensures _ c.in-Err.is c.if-n-room.false
