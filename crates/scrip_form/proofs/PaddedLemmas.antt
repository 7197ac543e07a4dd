-- What a padded text is, for the functions that make one.
use Rattle.scrip_form.specs.Padded.{IsPadded-padded, take-padded}

pub ruleset padded_lemmas = (IsPadded-padded, take-padded)
