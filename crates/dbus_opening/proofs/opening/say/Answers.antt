use Rattle.dbus_opening.proofs.opening.say.Goals as goal

-- the link failed after a prefix
pub returns-in-Err : goal.returns-in-Err
returns-in-Err g c = let sent = c.in-Err.ensures in (sent.0, (sent.1, sent.2), sent.3, sent.4)
