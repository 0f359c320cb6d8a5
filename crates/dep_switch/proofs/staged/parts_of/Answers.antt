use Rattle.dep_switch.proofs.staged.parts_of.Goals as goal

pub returns : goal.returns
returns c = record {
  deploy = c.in_ok-deploy.ensures;
  says = c.in_ok-bytes.ensures.says;
  short = c.in_ok-bytes.ensures.short;
  text = c.in_ok-text.ensures.text;
  from = c.in_ok-from.ensures;
  to = c.in_ok-to.ensures;
  digits = c.in_ok-text.ensures.good;
}
