mod FrontLemmas
mod ValueLemmas
