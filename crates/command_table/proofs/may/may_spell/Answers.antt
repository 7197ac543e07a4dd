use Rattle.command_table.proofs.SpellLemmas.{spells_as}
use Rattle.command_table.proofs.may.may_spell.Goals as goal

pub returns-in-Place : goal.returns-in-Place
returns-in-Place c = spells_as _ _ c.in-Place.is c.may_place.ensures

pub returns-in-Listen : goal.returns-in-Listen
returns-in-Listen c = spells_as _ _ c.in-Listen.is c.may_listen.ensures

pub returns-in-Connect : goal.returns-in-Connect
returns-in-Connect c = spells_as _ _ c.in-Connect.is c.may_connect.ensures

pub returns-in-Socket : goal.returns-in-Socket
returns-in-Socket c = spells_as _ _ c.in-Socket.is c.may_socket.ensures

pub returns-in-Name : goal.returns-in-Name
returns-in-Name c = spells_as _ _ c.in-Name.is c.may_name.ensures

pub returns-in-Target : goal.returns-in-Target
returns-in-Target c = spells_as _ _ c.in-Target.is c.may_target.ensures

pub returns-in-Contents : goal.returns-in-Contents
returns-in-Contents c = spells_as _ _ c.in-Contents.is c.may_contents.ensures

pub returns-in-Secret : goal.returns-in-Secret
returns-in-Secret c = spells_as _ _ c.in-Secret.is c.may_secret.ensures

pub returns-in-Secrets : goal.returns-in-Secrets
returns-in-Secrets c = spells_as _ _ c.in-Secrets.is c.may_secrets.ensures

pub returns-in-Number : goal.returns-in-Number
returns-in-Number c = spells_as _ _ c.in-Number.is c.may_number.ensures
