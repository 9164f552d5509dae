mod OnePart
